use Rattle.amqp_endpoint_links.proofs.Projecting.{within}
use Rattle.amqp_endpoint_links.proofs.laws.the_session_has_its_own_history.Goals as goal

pub returns : goal.returns
returns g c = λ start end steps history.
    let inner = within g.R.LinkRelay.gives steps start end history in
    (inner.done, inner.are, inner.run)
