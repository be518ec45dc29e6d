use Rattle.amqp_endpoint_tables.proofs.OwningLinks.{own}
use Rattle.amqp_endpoint_tables.proofs.link_laws.each_link_has_its_own_history.Goals as goal

pub returns : goal.returns
returns g c n start end steps h = own n start steps end h
