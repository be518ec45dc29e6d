-- What becomes of a message: part 2, 2.7.6, and part 3, 3.4.
use Rattle.std.specs.Prelude.{Bool, true, false, Option, Some, None}
use Rattle.amqp_session_states.specs.declared.delivery_state.DeliveryState.{DeliveryState}
use Rattle.amqp_session_states.specs.declared.delivery_state.DeliveryState.TheVariants.{Received, Accepted, Rejected}
use Rattle.amqp_session_states.specs.declared.delivery_state.DeliveryState.TheVariants.{Released, Modified}
use Rattle.amqp_session_states.specs.declared.outcome.Outcome.TheVariants as outcome
use Rattle.amqp_session_states.specs.Terminal.{is_terminal}
use Rattle.amqp_link_unsettled.specs.declared.resolution.Resolution.{Resolution}
use Rattle.amqp_link_unsettled.specs.declared.resolution.Resolution.TheVariants.{Outcome, NoState, NotTerminal}

-- a message that comes to its end with this state
abbrev pub resolution_of : Option DeliveryState → Resolution
resolution_of None = NoState
resolution_of (Some (Received place)) = NotTerminal
resolution_of (Some (Accepted x)) = Outcome (outcome.Accepted x)
resolution_of (Some (Rejected x)) = Outcome (outcome.Rejected x)
resolution_of (Some (Released x)) = Outcome (outcome.Released x)
resolution_of (Some (Modified x)) = Outcome (outcome.Modified x)

-- the state is there, and is terminal
abbrev pub is_outcome : Option DeliveryState → Bool
is_outcome None = false
is_outcome (Some state) = is_terminal state

-- a disposition ends a message where it settles it, and where it tells a terminal state
abbrev pub ends : Bool → Option DeliveryState → Bool
ends true state = true
ends false state = is_outcome state
