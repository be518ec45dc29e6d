use Rattle.amqp_endpoint_links.proofs.Apart.{asked-apart}
use Rattle.amqp_endpoint_links.proofs.laws.an_asked_handle_leads_to_no_link.Goals as goal

pub returns : goal.returns
returns g c = λ start end steps empty history none handle there.
    asked-apart g.R.LinkRelay.gives start end steps empty history none handle there
