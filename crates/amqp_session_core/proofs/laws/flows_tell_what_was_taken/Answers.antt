use Rattle.std.proofs.Common.{refl}
use Rattle.std.specs.Prelude.{None}
use Rattle.amqp_session_core.specs.State.{fresh}
use Rattle.amqp_session_core.proofs.Telling.{history-tells}
use Rattle.amqp_session_core.proofs.laws.flows_tell_what_was_taken.Goals as goal

pub returns : goal.returns
returns g c = λ channel first window end steps run. history-tells g.R.LinkRelay.gives None window steps (fresh channel first window) end refl refl run
