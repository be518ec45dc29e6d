use Rattle.amqp_session_states.specs.ArchetypeLaws.{target_archetype_again, target_archetype_same}
use Rattle.amqp_session_states.proofs.laws.target_archetype_is_its_item.Goals as goal

pub returns : goal.returns
returns c = record { read_back = target_archetype_again; told_apart = target_archetype_same }
