use Rattle.amqp_session_outgoing.specs.History.{fresh}
use Rattle.amqp_session_outgoing.proofs.Numbers.{history-window}
use Rattle.amqp_session_outgoing.proofs.laws.each_in_window.Goals as goal

pub returns : goal.returns
returns g c = λ first steps end run. history-window steps (fresh first) end run
