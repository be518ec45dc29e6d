use Rattle.amqp_session_states.specs.SourceLaws.{source_again, source_same}
use Rattle.amqp_session_states.proofs.laws.source_is_its_item.Goals as goal

pub returns : goal.returns
returns c = record { read_back = source_again; told_apart = source_same }
