use Rattle.std.proofs.Common.{arith}
use Rattle.amqp_session_core.specs.State.{fresh}
use Rattle.amqp_session_core.proofs.Window.{history-used}
use Rattle.amqp_session_core.proofs.laws.half_of_the_window_stays_open.Goals as goal

pub returns : goal.returns
returns g c = λ channel first window end steps some run. history-used g.R.LinkRelay.gives steps (fresh channel first window) end run (omega (arith, some))
