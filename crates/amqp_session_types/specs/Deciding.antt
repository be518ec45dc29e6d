-- Bytes give one value of each of these types.
use Rattle.serde_amqp_de.specs.Decides.{Decided}
use Rattle.serde_amqp_de.specs.Deciding.{string_decided, symbol_decided, option_decided, multiple_decided, record_decided}
use Rattle.serde_amqp_de.specs.Kept.{raw_taken, raw_decided}
use Rattle.serde_amqp_de.specs.Takes.{string_taken, symbol_taken}
use Rattle.serde_amqp_values.specs.MapDeciding.{ordered_decided}
use Rattle.amqp_session_types.specs.Error.{error_name, error_takes, error_taken}
use Rattle.amqp_session_types.specs.Fields.{named_values_taken, symbols_taken}

pub named_values_decided : Decided named_values_taken
named_values_decided = ordered_decided symbol_taken raw_taken symbol_decided raw_decided

pub symbols_decided : Decided symbols_taken
symbols_decided = multiple_decided symbol_taken symbol_decided

pub error_decided : Decided error_taken
error_decided = record_decided 0x1d error_name error_takes (symbol_decided, (option_decided string_taken string_decided, (option_decided named_values_taken named_values_decided, tt)))
