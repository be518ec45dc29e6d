use Rattle.amqp_session_outgoing.specs.History.{fresh}
use Rattle.amqp_session_outgoing.proofs.Order.{history-order}
use Rattle.amqp_session_outgoing.proofs.laws.each_link_in_order.Goals as goal

pub returns : goal.returns
returns g c = λ first steps end run link. history-order link steps (fresh first) end tt run
