use Rattle.amqp_endpoint_links.proofs.Histories.{within}
use Rattle.amqp_endpoint_links.proofs.laws.a_link_keeps_its_number.Goals as goal

pub returns : goal.returns
returns g c = λ start end steps history kept. within g.R.LinkRelay.gives g.O.LinkOwner.keeps start end steps history kept
