use Rattle.amqp_session_states.specs.Again.{released_again}
use Rattle.amqp_session_states.specs.Faithful.{released_same}
use Rattle.amqp_session_states.proofs.laws.released_is_its_item.Goals as goal

pub returns : goal.returns
returns c = record { read_back = released_again; told_apart = released_same }
