use Rattle.amqp_session_states.specs.Again.{accepted_again}
use Rattle.amqp_session_states.specs.Faithful.{accepted_same}
use Rattle.amqp_session_states.proofs.laws.accepted_is_its_item.Goals as goal

pub returns : goal.returns
returns c = record { read_back = accepted_again; told_apart = accepted_same }
