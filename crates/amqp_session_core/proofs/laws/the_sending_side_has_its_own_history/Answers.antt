use Rattle.amqp_session_core.proofs.SendingSide.{history-sends}
use Rattle.amqp_session_core.proofs.laws.the_sending_side_has_its_own_history.Goals as goal

pub returns : goal.returns
returns g c = λ start end steps run. history-sends g.R.LinkRelay.gives steps start end run
