use Rattle.amqp_session_core.proofs.Parting.{links-apart}
use Rattle.amqp_session_core.proofs.laws.live_links_are_apart.Goals as goal

pub returns : goal.returns
returns g c = links-apart g.R.LinkRelay.gives
