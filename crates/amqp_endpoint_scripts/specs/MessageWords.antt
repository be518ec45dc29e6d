-- The words by which a script sends messages and disposes of them.
use Rattle.std.specs.Prelude.{ℕ, Bool, true, false, List, Option, Some, None, if◌then◌else◌, codes}
use Rattle.std.specs.Str.{bytes_eq}
use Rattle.amqp_session_states.specs.declared.delivery_state.DeliveryState.{DeliveryState}
use Rattle.amqp_session_states.specs.declared.delivery_state.DeliveryState.TheVariants.{Accepted, Rejected, Released}
use Rattle.amqp_session_states.specs.declared.delivery_state.DeliveryState.TheVariants.{Modified}

-- whether a message is sent settled (part 2, 2.7.5)
abbrev pub settled_of : List ℕ → Option Bool
settled_of word =
    if bytes_eq word (codes "settled") then Some true else
    if bytes_eq word (codes "unsettled") then Some false else
    None

-- the outcome that the sender of a message is told, of which no field is set (part 3, 3.4)
abbrev pub state_of : List ℕ → Option DeliveryState
state_of word =
    if bytes_eq word (codes "accepted") then Some (Accepted (record {})) else
    if bytes_eq word (codes "rejected") then Some (Rejected (record { error = None })) else
    if bytes_eq word (codes "released") then Some (Released (record {})) else
    if bytes_eq word (codes "modified") then
    Some (Modified (record { delivery_failed = None; undeliverable_here = None; message_annotations = None })) else
    None

-- whether a message is settled as it is disposed of: the word `mode` leaves that to the settle mode that its transfers
-- say, or else to its link's (part 2, 2.7.6, 2.8.3)
abbrev pub settling_of : List ℕ → Option (Option Bool)
settling_of word =
    if bytes_eq word (codes "settled") then Some (Some true) else
    if bytes_eq word (codes "unsettled") then Some (Some false) else
    if bytes_eq word (codes "mode") then Some None else
    None
