use Rattle.amqp_session_outgoing.specs.History.{fresh}
use Rattle.amqp_session_outgoing.proofs.Order.{history-distinct, silent}
use Rattle.amqp_session_outgoing.proofs.laws.silent_link_stays_silent.Goals as goal

pub returns : goal.returns
returns g c = λ first before after mid end run then_run link none nothing.
    silent link after mid end (history-distinct before (fresh first) mid tt run) then_run none nothing
