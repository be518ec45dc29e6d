use Rattle.amqp_session_states.specs.Again.{received_again}
use Rattle.amqp_session_states.specs.Faithful.{received_same}
use Rattle.amqp_session_states.proofs.laws.received_is_its_item.Goals as goal

pub returns : goal.returns
returns c = record { read_back = received_again; told_apart = received_same }
