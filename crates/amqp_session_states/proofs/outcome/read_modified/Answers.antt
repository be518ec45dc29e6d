use Rattle.std.proofs.Common.{refl}
use Rattle.serde_amqp_de.proofs.Heads.{carried}
use Rattle.serde_amqp_values.proofs.Choosing.{chosen_took, chosen_refused}
use Rattle.amqp_session_states.specs.Modified.{modified_fields, modified_takes}
use Rattle.amqp_session_states.specs.Outcome.{outcome_rows}
use Rattle.amqp_session_states.proofs.outcome.read_modified.Goals as goal

pub returns-in_err-delivery_failed-clause-refused : goal.returns-in_err-delivery_failed-clause-refused
returns-in_err-delivery_failed-clause-refused g c = carried g.R.Read.faulty c.from_residual.result _ _ _ c.from_residual.ensures.1 (λ r. chosen_refused outcome_rows c.args.code 0x27 modified_takes _ c.requires.coded r refl) c.in_err-delivery_failed.ensures.refused

pub returns-clause-ok : goal.returns-clause-ok
returns-clause-ok g c = chosen_took outcome_rows c.args.code 0x27 modified_takes (modified_fields (record { delivery_failed = c.in_ok-delivery_failed.delivery_failed; undeliverable_here = c.in_ok-delivery_failed.undeliverable_here; message_annotations = c.in_ok-delivery_failed.field-0-1-1-0.0 })) _ _ c.requires.coded c.in_ok-delivery_failed.ensures.ok refl
