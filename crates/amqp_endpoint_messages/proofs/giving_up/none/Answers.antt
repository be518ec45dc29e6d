use Rattle.std.proofs.Common.{List, [], subst, sym, true}
use Rattle.amqp_session_core.specs.Batch.{Transfers}
use Rattle.amqp_endpoint_messages.specs.MadeReady.{ArePlanned}
use Rattle.amqp_endpoint_messages.proofs.Planned.{planned-end}
use Rattle.amqp_endpoint_messages.proofs.giving_up.none.Goals as goal

pub returns : goal.returns
returns c = λ limit handle.
    subst (λ (l : List Transfers). ArePlanned limit handle [] l true) (sym c.new.ensures.items)
    (planned-end limit handle)
