use Rattle.amqp_endpoint_laws.proofs.AskedCame.{links-came}
use Rattle.amqp_endpoint_laws.proofs.laws.links_are_asked_for_by_an_attach.Goals as goal

pub returns : goal.returns
returns c = λ sessions end settings deeds number theirs passings link new p there.
    links-came sessions end settings deeds number theirs passings link new p there
