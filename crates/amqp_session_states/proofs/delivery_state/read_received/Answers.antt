use Rattle.std.proofs.Common.{refl}
use Rattle.serde_amqp_de.proofs.Heads.{carried}
use Rattle.serde_amqp_values.proofs.Choosing.{chosen_took, chosen_refused}
use Rattle.amqp_session_states.specs.DeliveryState.{delivery_state_rows}
use Rattle.amqp_session_states.specs.Received.{received_fields, received_takes}
use Rattle.amqp_session_states.proofs.delivery_state.read_received.Goals as goal

pub returns-in_err-section_number-clause-refused : goal.returns-in_err-section_number-clause-refused
returns-in_err-section_number-clause-refused g c = carried g.R.Read.faulty c.from_residual.result _ _ _ c.from_residual.ensures.1 (λ r. chosen_refused delivery_state_rows c.args.code 0x23 received_takes _ c.requires.received r refl) c.in_err-section_number.ensures.refused

pub returns-clause-ok : goal.returns-clause-ok
returns-clause-ok g c = chosen_took delivery_state_rows c.args.code 0x23 received_takes (received_fields (record { section_number = c.in_ok-section_number.section_number; section_offset = c.in_ok-section_number.section_offset })) _ _ c.requires.received c.in_ok-section_number.ensures.ok refl
