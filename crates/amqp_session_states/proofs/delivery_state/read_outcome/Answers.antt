use Rattle.std.proofs.Common.{None}
use Rattle.serde_amqp_de.proofs.Heads.{carried}
use Rattle.amqp_session_states.proofs.States.{later_refused, later_took}
use Rattle.amqp_session_states.proofs.delivery_state.read_outcome.Goals as goal

pub returns-in_err-outcome-clause-refused : goal.returns-in_err-outcome-clause-refused
returns-in_err-outcome-clause-refused g c = carried g.R.Read.faulty c.from_residual.result _ _ _ c.from_residual.ensures.1 (λ r. later_refused c.args.code None _ r c.requires.other) c.in_err-outcome.ensures.refused

pub returns-clause-ok : goal.returns-clause-ok
returns-clause-ok g c = later_took c.args.code c.in_ok-outcome.outcome c.from.result None _ _ c.in_ok-outcome.ensures.ok c.requires.other c.from.ensures
