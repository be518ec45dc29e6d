-- Fields of several performatives.
use Rattle.std.specs.Prelude.{ℕ, List, Option, bytes_eq}
use Rattle.serde_amqp_item.specs.Item.{Item, scalar, uint, binary}
use Rattle.serde_amqp_item.specs.Record.{option_item}
use Rattle.serde_amqp_de.specs.Takes.{binary_taken, option_taken}
use Rattle.serde_amqp_values.specs.Items.{ordered_item}
use Rattle.serde_amqp_values.specs.MapTakes.{ordered_taken}
use Rattle.amqp_session_types.specs.declared.handles.Handle.{Handle}
use Rattle.amqp_session_states.specs.DeliveryState.{delivery_state_item, delivery_state_taken}
use Rattle.amqp_session_states.specs.declared.delivery_state.DeliveryState.{DeliveryState}

-- a handle is a uint (part 2, 2.8.17)
abbrev pub handle_item : Handle → Item
handle_item h = scalar (uint h.0)

-- a map of the tags of unsettled deliveries to their states (part 2, 2.7.3)
abbrev pub unsettled_item : List (List ℕ × Option DeliveryState) → Item
unsettled_item = ordered_item bytes_eq (λ t. scalar (binary t)) (option_item delivery_state_item)

abbrev pub unsettled_taken : Item → Option Item
unsettled_taken = ordered_taken binary_taken (option_taken delivery_state_taken)
