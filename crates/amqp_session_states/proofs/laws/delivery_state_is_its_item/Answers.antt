use Rattle.amqp_session_states.specs.DeliveryStateLaws.{delivery_state_again, delivery_state_same}
use Rattle.amqp_session_states.proofs.laws.delivery_state_is_its_item.Goals as goal

pub returns : goal.returns
returns c = record { read_back = delivery_state_again; told_apart = delivery_state_same }
