use Rattle.amqp_session_states.specs.TargetLaws.{target_again, target_same}
use Rattle.amqp_session_states.proofs.laws.target_is_its_item.Goals as goal

pub returns : goal.returns
returns c = record { read_back = target_again; told_apart = target_same }
