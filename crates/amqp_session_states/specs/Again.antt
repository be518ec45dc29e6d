-- A value's item is taken as that value.
use Rattle.std.proofs.Common.{◌≡◌, [], Some, refl}
use Rattle.serde_amqp_item.specs.Item.{scalar, boolean}
use Rattle.serde_amqp_de.specs.Again.{EachAgain, option_again, record_again}
use Rattle.serde_amqp_de.specs.Takes.{boolean_taken}
use Rattle.amqp_session_types.specs.Again.{error_again, named_values_again, named_values_present}
use Rattle.amqp_session_types.specs.Error.{error_item, error_taken}
use Rattle.amqp_session_types.specs.Fields.{named_values_item, named_values_taken}
use Rattle.amqp_session_states.specs.Accepted.{accepted_item, accepted_name, accepted_takes, accepted_taken}
use Rattle.amqp_session_states.specs.Modified.{modified_fields, modified_item, modified_name, modified_takes, modified_taken}
use Rattle.amqp_session_states.specs.Received.{received_fields, received_item, received_name, received_takes, received_taken}
use Rattle.amqp_session_states.specs.Rejected.{rejected_fields, rejected_item, rejected_name, rejected_takes, rejected_taken}
use Rattle.amqp_session_states.specs.Released.{released_item, released_name, released_takes, released_taken}
use Rattle.amqp_session_states.specs.declared.accepted.Accepted.{Accepted}
use Rattle.amqp_session_states.specs.declared.modified.Modified.{Modified}
use Rattle.amqp_session_states.specs.declared.received.Received.{Received}
use Rattle.amqp_session_states.specs.declared.rejected.Rejected.{Rejected}
use Rattle.amqp_session_states.specs.declared.released.Released.{Released}

pub received_again : (r : Received) → received_taken (received_item r) ≡ Some (received_item r)
received_again r = record_again 0x23 received_name received_takes (received_fields r) (refl, (refl, tt))

pub accepted_again : (a : Accepted) → accepted_taken (accepted_item a) ≡ Some (accepted_item a)
accepted_again a = record_again 0x24 accepted_name accepted_takes [] tt

pub rejected_fields_again : (r : Rejected) → EachAgain rejected_takes (rejected_fields r)
rejected_fields_again r = (option_again error_taken error_item error_again (λ _. refl) r.error, tt)

pub rejected_again : (r : Rejected) → rejected_taken (rejected_item r) ≡ Some (rejected_item r)
rejected_again r = record_again 0x25 rejected_name rejected_takes (rejected_fields r) (rejected_fields_again r)

pub released_again : (r : Released) → released_taken (released_item r) ≡ Some (released_item r)
released_again r = record_again 0x26 released_name released_takes [] tt

pub modified_fields_again : (m : Modified) → EachAgain modified_takes (modified_fields m)
modified_fields_again m = (
  option_again boolean_taken (λ b. scalar (boolean b)) (λ _. refl) (λ _. refl) m.delivery_failed,
  (
    option_again boolean_taken (λ b. scalar (boolean b)) (λ _. refl) (λ _. refl) m.undeliverable_here,
    (option_again named_values_taken named_values_item named_values_again named_values_present m.message_annotations, tt),
  ),
)

pub modified_again : (m : Modified) → modified_taken (modified_item m) ≡ Some (modified_item m)
modified_again m = record_again 0x27 modified_name modified_takes (modified_fields m) (modified_fields_again m)
