-- The states of a delivery: part 3, 3.4.
use Rattle.std.specs.Prelude.{ℕ, List, [], ◌∷◌, Option}
use Rattle.serde_amqp_item.specs.Item.{Item}
use Rattle.serde_amqp_values.specs.Choice.{Row, choice_taken}
use Rattle.amqp_session_states.specs.Accepted.{accepted_item}
use Rattle.amqp_session_states.specs.Modified.{modified_item}
use Rattle.amqp_session_states.specs.Outcome.{outcome_rows}
use Rattle.amqp_session_states.specs.Received.{received_item, received_name, received_takes}
use Rattle.amqp_session_states.specs.Rejected.{rejected_item}
use Rattle.amqp_session_states.specs.Released.{released_item}
use Rattle.amqp_session_states.specs.declared.delivery_state.DeliveryState.{DeliveryState}
use Rattle.amqp_session_states.specs.declared.delivery_state.DeliveryState.TheVariants.{Received, Accepted, Rejected}
use Rattle.amqp_session_states.specs.declared.delivery_state.DeliveryState.TheVariants.{Released, Modified}

abbrev pub delivery_state_item : DeliveryState → Item
delivery_state_item (Received x) = received_item x
delivery_state_item (Accepted x) = accepted_item x
delivery_state_item (Rejected x) = rejected_item x
delivery_state_item (Released x) = released_item x
delivery_state_item (Modified x) = modified_item x

-- received, and the outcomes
abbrev pub delivery_state_rows : List Row
delivery_state_rows = record { code = 0x23; name = received_name; takes = received_takes } ∷ outcome_rows

-- the items that are read as a state, and the item of that state
abbrev pub delivery_state_taken : Item → Option Item
delivery_state_taken = choice_taken delivery_state_rows
