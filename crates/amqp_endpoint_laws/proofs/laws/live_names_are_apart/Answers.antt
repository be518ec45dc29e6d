use Rattle.amqp_endpoint_laws.proofs.LinksKept.{are-apart}
use Rattle.amqp_endpoint_laws.proofs.laws.live_names_are_apart.Goals as goal

pub returns : goal.returns
returns c = λ sessions settings calls told end new run.
    are-apart end.sessions.links (c.links_have_a_history.ensures sessions settings calls told end new run)
