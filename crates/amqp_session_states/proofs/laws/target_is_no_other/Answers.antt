use Rattle.amqp_session_states.specs.ArchetypeLaws.{target_is_no_other}
use Rattle.amqp_session_states.proofs.laws.target_is_no_other.Goals as goal

pub returns : goal.returns
returns c = target_is_no_other
