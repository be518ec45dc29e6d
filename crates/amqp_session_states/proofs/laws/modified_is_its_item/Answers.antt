use Rattle.amqp_session_states.specs.Again.{modified_again}
use Rattle.amqp_session_states.specs.Faithful.{modified_same}
use Rattle.amqp_session_states.proofs.laws.modified_is_its_item.Goals as goal

pub returns : goal.returns
returns c = record { read_back = modified_again; told_apart = modified_same }
