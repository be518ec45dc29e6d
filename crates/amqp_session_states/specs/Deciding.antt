-- Bytes give one value of each of these types.
use Rattle.serde_amqp_de.specs.Decides.{Decided, AllDecided}
use Rattle.serde_amqp_de.specs.Deciding.{boolean_decided, uint_decided, ulong_decided, symbol_decided, option_decided, record_decided}
use Rattle.serde_amqp_de.specs.Takes.{boolean_taken, uint_taken, symbol_taken}
use Rattle.amqp_session_types.specs.Deciding.{error_decided, named_values_decided}
use Rattle.amqp_session_types.specs.Error.{error_taken}
use Rattle.amqp_session_types.specs.Fields.{named_values_taken}
use Rattle.amqp_session_types.specs.LimitLaws.{limited_decided}
use Rattle.amqp_session_types.specs.Limits.{is_symbol_among, is_uint_upto}
use Rattle.amqp_session_states.specs.Accepted.{accepted_name, accepted_takes, accepted_taken}
use Rattle.amqp_session_states.specs.Modified.{modified_name, modified_takes, modified_taken}
use Rattle.amqp_session_states.specs.Received.{received_name, received_takes, received_taken}
use Rattle.amqp_session_states.specs.Rejected.{rejected_name, rejected_takes, rejected_taken}
use Rattle.amqp_session_states.specs.Released.{released_name, released_takes, released_taken}
use Rattle.amqp_session_states.specs.Terminus.{durability_taken, expiry_policy_names, expiry_policy_taken, distribution_mode_names, distribution_mode_taken}

pub received_fields_decided : AllDecided received_takes
received_fields_decided = (uint_decided, (ulong_decided, tt))

pub received_decided : Decided received_taken
received_decided = record_decided 0x23 received_name received_takes received_fields_decided

pub accepted_decided : Decided accepted_taken
accepted_decided = record_decided 0x24 accepted_name accepted_takes tt

pub rejected_fields_decided : AllDecided rejected_takes
rejected_fields_decided = (option_decided error_taken error_decided, tt)

pub rejected_decided : Decided rejected_taken
rejected_decided = record_decided 0x25 rejected_name rejected_takes rejected_fields_decided

pub released_decided : Decided released_taken
released_decided = record_decided 0x26 released_name released_takes tt

pub modified_fields_decided : AllDecided modified_takes
modified_fields_decided = (option_decided boolean_taken boolean_decided, (option_decided boolean_taken boolean_decided, (option_decided named_values_taken named_values_decided, tt)))

pub modified_decided : Decided modified_taken
modified_decided = record_decided 0x27 modified_name modified_takes modified_fields_decided

pub durability_decided : Decided durability_taken
durability_decided = limited_decided (is_uint_upto 2) uint_taken uint_decided

pub expiry_policy_decided : Decided expiry_policy_taken
expiry_policy_decided = limited_decided (is_symbol_among expiry_policy_names) symbol_taken symbol_decided

pub distribution_mode_decided : Decided distribution_mode_taken
distribution_mode_decided = limited_decided (is_symbol_among distribution_mode_names) symbol_taken symbol_decided
