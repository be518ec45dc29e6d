use Rattle.amqp_endpoint_laws.proofs.LinksKept.{have-come}
use Rattle.amqp_endpoint_laws.proofs.laws.links_have_a_history.Goals as goal

pub returns : goal.returns
returns c = λ sessions settings calls told end new run.
    have-come c.links_given_back_go_on.ensures.back c.links_given_back_go_on.ensures.left
    c.links_given_back_go_on.ensures.finished sessions settings calls told end new run
