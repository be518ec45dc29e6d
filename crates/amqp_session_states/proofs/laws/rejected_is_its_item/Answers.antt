use Rattle.amqp_session_states.specs.Again.{rejected_again}
use Rattle.amqp_session_states.specs.Faithful.{rejected_same}
use Rattle.amqp_session_states.proofs.laws.rejected_is_its_item.Goals as goal

pub returns : goal.returns
returns c = record { read_back = rejected_again; told_apart = rejected_same }
