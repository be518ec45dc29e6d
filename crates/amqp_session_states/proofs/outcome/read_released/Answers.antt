use Rattle.std.proofs.Common.{[], refl}
use Rattle.serde_amqp_de.proofs.Heads.{carried}
use Rattle.serde_amqp_values.proofs.Choosing.{chosen_took, chosen_refused}
use Rattle.amqp_session_states.specs.Released.{released_takes}
use Rattle.amqp_session_states.specs.Outcome.{outcome_rows}
use Rattle.amqp_session_states.proofs.outcome.read_released.Goals as goal

pub returns-in_err-read_fields_of-clause-refused : goal.returns-in_err-read_fields_of-clause-refused
returns-in_err-read_fields_of-clause-refused g c = carried g.R.Read.faulty c.from_residual.result _ _ _ c.from_residual.ensures.1 (λ r. chosen_refused outcome_rows c.args.code 0x26 released_takes _ c.requires.coded r refl) c.in_err-read_fields_of.ensures.refused

pub returns-clause-ok : goal.returns-clause-ok
returns-clause-ok g c = chosen_took outcome_rows c.args.code 0x26 released_takes [] _ _ c.requires.coded c.in_ok-read_fields_of.ensures.ok refl
