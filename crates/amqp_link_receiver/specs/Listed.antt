-- How an Attach lists what a receiving end keeps of a delivery: part 2, 2.6.13 and 2.7.3, and part 3, 3.4.1.
use Rattle.std.specs.Prelude.{ℕ, List, length, Option, Some, None}
use Rattle.amqp_session_states.specs.declared.delivery_state.DeliveryState.{DeliveryState}
use Rattle.amqp_session_states.specs.declared.delivery_state.DeliveryState.TheVariants.{Received}
use Rattle.amqp_link_base.specs.Starts.{place_at}
use Rattle.amqp_link_receiver.specs.declared.entry.Entry.{Entry}
use Rattle.amqp_link_receiver.specs.declared.entry.Entry.TheVariants.{Half, Whole}
use Rattle.amqp_link_receiver.specs.declared.entry.WholeMessage.{WholeMessage}

-- the place to which bytes reach
abbrev pub reached : List ℕ → DeliveryState
reached bytes = Received (place_at bytes (length bytes))

-- a message that has come whole is listed with the state that was told of it, and else with the place of its end
abbrev pub told_or_reached : Option DeliveryState → List ℕ → Option DeliveryState
told_or_reached None bytes = Some (reached bytes)
told_or_reached (Some state) bytes = Some state

abbrev pub whole_listed_as : WholeMessage → Option DeliveryState
whole_listed_as m = told_or_reached m.state m.payload

-- what has come of a delivery is listed with the place to which it reaches
abbrev pub listed_as : Entry → Option DeliveryState
listed_as (Half kept) = Some (reached kept)
listed_as (Whole m) = whole_listed_as m
