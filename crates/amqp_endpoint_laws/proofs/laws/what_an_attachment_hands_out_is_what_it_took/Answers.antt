use Rattle.amqp_endpoint_laws.proofs.TakenOver.{hands-out}
use Rattle.amqp_endpoint_laws.proofs.laws.what_an_attachment_hands_out_is_what_it_took.Goals as goal

pub returns : goal.returns
returns c = λ sessions old new end settings before since number link limit its events frames first passings own held
    fresh passed d passes receives never.
    hands-out c.links_given_back_go_on.ensures.back c.links_given_back_go_on.ensures.left
    c.links_given_back_go_on.ensures.finished sessions old new end settings before since number link limit its events
    frames first passings own held fresh passed d passes receives never
