-- Which states of a delivery are terminal: all but received (part 3, 3.4).
use Rattle.std.specs.Prelude.{Bool, true, false, Option, Some, None}
use Rattle.amqp_session_states.specs.declared.delivery_state.DeliveryState.{DeliveryState}
use Rattle.amqp_session_states.specs.declared.delivery_state.DeliveryState.TheVariants.{Received, Accepted, Rejected}
use Rattle.amqp_session_states.specs.declared.delivery_state.DeliveryState.TheVariants.{Released, Modified}
use Rattle.amqp_session_states.specs.declared.outcome.Outcome.{Outcome}
use Rattle.amqp_session_states.specs.declared.outcome.Outcome.TheVariants.{Accepted as AcceptedOutcome}
use Rattle.amqp_session_states.specs.declared.outcome.Outcome.TheVariants.{Rejected as RejectedOutcome}
use Rattle.amqp_session_states.specs.declared.outcome.Outcome.TheVariants.{Released as ReleasedOutcome}
use Rattle.amqp_session_states.specs.declared.outcome.Outcome.TheVariants.{Modified as ModifiedOutcome}

abbrev pub is_terminal : DeliveryState → Bool
is_terminal (Received r) = false
is_terminal s = true

-- an outcome is a terminal state
abbrev pub terminal_state : Outcome → DeliveryState
terminal_state (AcceptedOutcome x) = Accepted x
terminal_state (RejectedOutcome x) = Rejected x
terminal_state (ReleasedOutcome x) = Released x
terminal_state (ModifiedOutcome x) = Modified x

-- a terminal state is an outcome
abbrev pub state_outcome : DeliveryState → Option Outcome
state_outcome (Received r) = None
state_outcome (Accepted x) = Some (AcceptedOutcome x)
state_outcome (Rejected x) = Some (RejectedOutcome x)
state_outcome (Released x) = Some (ReleasedOutcome x)
state_outcome (Modified x) = Some (ModifiedOutcome x)
