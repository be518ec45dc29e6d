use Rattle.amqp_endpoint_tables.proofs.OwningLinks.{stays_closed}
use Rattle.amqp_endpoint_tables.proofs.link_laws.closed_links_stay_closed.Goals as goal

pub returns : goal.returns
returns g c = stays_closed
