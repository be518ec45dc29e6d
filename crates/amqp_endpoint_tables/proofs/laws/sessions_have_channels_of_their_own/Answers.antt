use Rattle.amqp_endpoint_tables.proofs.Apart.{begins_apart}
use Rattle.amqp_endpoint_tables.proofs.laws.sessions_have_channels_of_their_own.Goals as goal

pub returns : goal.returns
returns g c = begins_apart
