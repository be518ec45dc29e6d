use Rattle.amqp_endpoint_tables.proofs.Ended.{ended}
use Rattle.amqp_endpoint_tables.proofs.laws.a_session_has_ended_once_both_end_passed.Goals as goal

pub returns : goal.returns
returns g c n connection end steps h = ended n connection end steps h
