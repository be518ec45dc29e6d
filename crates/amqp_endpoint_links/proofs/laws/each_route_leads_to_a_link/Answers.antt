use Rattle.amqp_endpoint_links.proofs.Apart.{all-reached}
use Rattle.amqp_endpoint_links.proofs.laws.each_route_leads_to_a_link.Goals as goal

pub returns : goal.returns
returns g c = λ start end steps empty history handle. all-reached g.R.LinkRelay.gives start end steps empty history handle
