-- Bytes give one state, a state is read as it is written, and its item says which it is.
use Rattle.std.proofs.Common.{◌≡◌, [], true, false, Some, ap, refl}
use Rattle.serde_amqp_de.specs.Decides.{Decided}
use Rattle.serde_amqp_de.specs.Takes.{reads_as_null}
use Rattle.serde_amqp_values.specs.Choice.{RowsDecided, codes_differ}
use Rattle.serde_amqp_values.specs.ChoiceAgain.{choice_again}
use Rattle.serde_amqp_values.specs.ChoiceDeciding.{choice_decided}
use Rattle.amqp_session_states.specs.Accepted.{accepted_name, accepted_takes}
use Rattle.amqp_session_states.specs.Modified.{modified_name, modified_takes, modified_fields}
use Rattle.amqp_session_states.specs.Received.{received_name, received_takes, received_fields}
use Rattle.amqp_session_states.specs.Rejected.{rejected_name, rejected_takes, rejected_fields}
use Rattle.amqp_session_states.specs.Released.{released_name, released_takes}
use Rattle.amqp_session_states.specs.Again.{rejected_fields_again, modified_fields_again}
use Rattle.amqp_session_states.specs.Deciding.{received_fields_decided}
use Rattle.amqp_session_states.specs.DeliveryState.{delivery_state_item, delivery_state_rows, delivery_state_taken}
use Rattle.amqp_session_states.specs.Faithful.{received_same, accepted_same, rejected_same, released_same}
use Rattle.amqp_session_states.specs.Faithful.{modified_same}
use Rattle.amqp_session_states.specs.OutcomeLaws.{outcome_rows_decided, other_codes}
use Rattle.amqp_session_states.specs.declared.delivery_state.DeliveryState.{DeliveryState}
use Rattle.amqp_session_states.specs.declared.delivery_state.DeliveryState.TheVariants.{Received, Accepted, Rejected}
use Rattle.amqp_session_states.specs.declared.delivery_state.DeliveryState.TheVariants.{Released, Modified}

pub delivery_state_rows_decided : RowsDecided delivery_state_rows
delivery_state_rows_decided = (received_fields_decided, outcome_rows_decided)

pub delivery_state_rows_differ : codes_differ delivery_state_rows ≡ true
delivery_state_rows_differ = refl

pub delivery_state_decided : Decided delivery_state_taken
delivery_state_decided = choice_decided delivery_state_rows delivery_state_rows_decided

pub delivery_state_again : (s : DeliveryState)
    → delivery_state_taken (delivery_state_item s) ≡ Some (delivery_state_item s)
delivery_state_again (Received x) =
    choice_again delivery_state_rows 0x23 (record { code = 0x23; name = received_name; takes = received_takes })
    (received_fields x) refl refl (refl, (refl, tt))
delivery_state_again (Accepted x) =
    choice_again delivery_state_rows 0x24 (record { code = 0x24; name = accepted_name; takes = accepted_takes }) [] refl
    refl tt
delivery_state_again (Rejected x) =
    choice_again delivery_state_rows 0x25 (record { code = 0x25; name = rejected_name; takes = rejected_takes })
    (rejected_fields x) refl refl (rejected_fields_again x)
delivery_state_again (Released x) =
    choice_again delivery_state_rows 0x26 (record { code = 0x26; name = released_name; takes = released_takes }) [] refl
    refl tt
delivery_state_again (Modified x) =
    choice_again delivery_state_rows 0x27 (record { code = 0x27; name = modified_name; takes = modified_takes })
    (modified_fields x) refl refl (modified_fields_again x)

pub delivery_state_present : (s : DeliveryState) → reads_as_null (delivery_state_item s) ≡ false
delivery_state_present (Received x) = refl
delivery_state_present (Accepted x) = refl
delivery_state_present (Rejected x) = refl
delivery_state_present (Released x) = refl
delivery_state_present (Modified x) = refl

pub delivery_state_same : (x y : DeliveryState) → delivery_state_item x ≡ delivery_state_item y → x ≡ y
delivery_state_same (Received x) (Received y) e = ap (λ z. Received z) (received_same x y e)
delivery_state_same (Received x) (Accepted y) e = absurd (other_codes 0x23 0x24 (received_fields x) [] refl e)
delivery_state_same (Received x) (Rejected y) e =
    absurd (other_codes 0x23 0x25 (received_fields x) (rejected_fields y) refl e)
delivery_state_same (Received x) (Released y) e = absurd (other_codes 0x23 0x26 (received_fields x) [] refl e)
delivery_state_same (Received x) (Modified y) e =
    absurd (other_codes 0x23 0x27 (received_fields x) (modified_fields y) refl e)
delivery_state_same (Accepted x) (Received y) e = absurd (other_codes 0x24 0x23 [] (received_fields y) refl e)
delivery_state_same (Accepted x) (Accepted y) e = ap (λ z. Accepted z) (accepted_same x y e)
delivery_state_same (Accepted x) (Rejected y) e = absurd (other_codes 0x24 0x25 [] (rejected_fields y) refl e)
delivery_state_same (Accepted x) (Released y) e = absurd (other_codes 0x24 0x26 [] [] refl e)
delivery_state_same (Accepted x) (Modified y) e = absurd (other_codes 0x24 0x27 [] (modified_fields y) refl e)
delivery_state_same (Rejected x) (Received y) e =
    absurd (other_codes 0x25 0x23 (rejected_fields x) (received_fields y) refl e)
delivery_state_same (Rejected x) (Accepted y) e = absurd (other_codes 0x25 0x24 (rejected_fields x) [] refl e)
delivery_state_same (Rejected x) (Rejected y) e = ap (λ z. Rejected z) (rejected_same x y e)
delivery_state_same (Rejected x) (Released y) e = absurd (other_codes 0x25 0x26 (rejected_fields x) [] refl e)
delivery_state_same (Rejected x) (Modified y) e =
    absurd (other_codes 0x25 0x27 (rejected_fields x) (modified_fields y) refl e)
delivery_state_same (Released x) (Received y) e = absurd (other_codes 0x26 0x23 [] (received_fields y) refl e)
delivery_state_same (Released x) (Accepted y) e = absurd (other_codes 0x26 0x24 [] [] refl e)
delivery_state_same (Released x) (Rejected y) e = absurd (other_codes 0x26 0x25 [] (rejected_fields y) refl e)
delivery_state_same (Released x) (Released y) e = ap (λ z. Released z) (released_same x y e)
delivery_state_same (Released x) (Modified y) e = absurd (other_codes 0x26 0x27 [] (modified_fields y) refl e)
delivery_state_same (Modified x) (Received y) e =
    absurd (other_codes 0x27 0x23 (modified_fields x) (received_fields y) refl e)
delivery_state_same (Modified x) (Accepted y) e = absurd (other_codes 0x27 0x24 (modified_fields x) [] refl e)
delivery_state_same (Modified x) (Rejected y) e =
    absurd (other_codes 0x27 0x25 (modified_fields x) (rejected_fields y) refl e)
delivery_state_same (Modified x) (Released y) e = absurd (other_codes 0x27 0x26 (modified_fields x) [] refl e)
delivery_state_same (Modified x) (Modified y) e = ap (λ z. Modified z) (modified_same x y e)
