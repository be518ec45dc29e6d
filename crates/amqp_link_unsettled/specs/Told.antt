-- The state that the peer tells of an open message: part 2, 2.7.6.
use Rattle.std.specs.Prelude.{Option}
use Rattle.amqp_session_states.specs.declared.delivery_state.DeliveryState.{DeliveryState}
use Rattle.amqp_link_unsettled.specs.declared.open.Open.{Open}

-- the message, of which this state was told last
abbrev pub told : Open → Option DeliveryState → Open
told message state = record message { state = state }
