-- How a message is disposed of by an outcome alone (part 3, 3.4).
use Rattle.std.specs.Prelude.{None}
use Rattle.amqp_session_states.specs.declared.delivery_state.DeliveryState.{DeliveryState}
use Rattle.amqp_endpoint_model.specs.declared.call.Disposal.{Disposal}

-- by this state: it is settled as its transfers say, or else its link (part 2, 2.8.3)
abbrev pub disposal_by : DeliveryState → Disposal
disposal_by state = record { state = state; settled = None }
