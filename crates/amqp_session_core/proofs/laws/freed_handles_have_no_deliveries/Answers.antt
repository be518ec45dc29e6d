use Rattle.amqp_session_core.proofs.Freeing.{stays-vacant}
use Rattle.amqp_session_core.proofs.laws.freed_handles_have_no_deliveries.Goals as goal

pub returns : goal.returns
returns g c = stays-vacant g.R.LinkRelay.gives
