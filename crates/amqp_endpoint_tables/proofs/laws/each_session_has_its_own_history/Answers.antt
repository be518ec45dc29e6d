use Rattle.amqp_endpoint_tables.proofs.Owning.{own}
use Rattle.amqp_endpoint_tables.proofs.laws.each_session_has_its_own_history.Goals as goal

pub returns : goal.returns
returns g c n start end steps h = own n start steps end h
