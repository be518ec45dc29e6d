-- What becomes of a delivery that was interrupted: part 2, 2.6.13, and part 3, 3.4.6.
use Rattle.std.specs.Prelude.{◌==◌, ◌&&◌, ◌||◌, Bool, true, false, Option, Some, None, Result, Ok, Err, nat_lt}
use Rattle.std.specs.Prelude.{if◌then◌else◌}
use Rattle.amqp_session_states.specs.declared.received.Received.{Received}
use Rattle.amqp_session_states.specs.declared.delivery_state.DeliveryState.{DeliveryState}
use Rattle.amqp_session_states.specs.declared.delivery_state.DeliveryState.TheVariants as state
use Rattle.amqp_link_unsettled.specs.declared.message.UnsettledMessage.{UnsettledMessage}
use Rattle.amqp_link_unsettled.specs.declared.resumption.ResumingDelivery.{ResumingDelivery}
use Rattle.amqp_link_unsettled.specs.declared.resumption.ResumingDelivery.TheVariants as resuming
use Rattle.amqp_link_unsettled.specs.declared.resumption.Decision.{Decision}
use Rattle.amqp_link_unsettled.specs.declared.resumption.Decision.TheVariants.{Resend, ResumeFrom, Abort, Restate}
use Rattle.amqp_link_unsettled.specs.declared.resumption.Decision.TheVariants.{ResolveAsTold, ResolveAsListed}

-- the place at which a message starts
abbrev pub start : Received
start = record { section_number = 0; section_offset = 0 }

-- places go by section, then by offset
abbrev pub is_past : Received → Received → Bool
is_past a b =
    nat_lt b.section_number a.section_number ||
    (a.section_number == b.section_number && nat_lt b.section_offset a.section_offset)

abbrev pub is_same_kind : DeliveryState → DeliveryState → Bool
is_same_kind (state.Accepted a) (state.Accepted b) = true
is_same_kind (state.Rejected a) (state.Rejected b) = true
is_same_kind (state.Released a) (state.Released b) = true
is_same_kind (state.Modified a) (state.Modified b) = true
is_same_kind (state.Received a) (state.Received b) = true
is_same_kind _ _ = false

-- a delivery goes on where the peer stands, unless the peer had told that it stood further
abbrev pub unless_past : Received → Received → Decision
unless_past own place = if is_past own place then Abort else ResumeFrom place

-- the sender knows an outcome, and the peer lists one: the peer is told where they differ
abbrev pub told_or_restated : DeliveryState → DeliveryState → Decision
told_or_restated own listed = if is_same_kind own listed then ResolveAsTold else Restate

-- no state was told: by what the peer lists
abbrev pub from_none : Option (Option DeliveryState) → Decision
from_none None = Resend
from_none (Some None) = ResumeFrom start
from_none (Some (Some (state.Received place))) = ResumeFrom place
from_none (Some (Some listed)) = ResolveAsListed

-- the peer had told that it stood at a place
abbrev pub from_place : Received → Option (Option DeliveryState) → Decision
from_place own None = Resend
from_place own (Some None) = unless_past own start
from_place own (Some (Some (state.Received place))) = unless_past own place
from_place own (Some (Some listed)) = ResolveAsListed

-- an outcome stands
abbrev pub from_outcome : DeliveryState → Option (Option DeliveryState) → Decision
from_outcome own None = ResolveAsTold
from_outcome own (Some None) = Abort
from_outcome own (Some (Some (state.Received place))) = Abort
from_outcome own (Some (Some listed)) = told_or_restated own listed

-- what becomes of a delivery by the state that was told of it, and by what the peer lists: a state, null, or nothing
abbrev pub decision : Option DeliveryState → Option (Option DeliveryState) → Decision
decision None listed = from_none listed
decision (Some (state.Received own)) listed = from_place own listed
decision (Some own) listed = from_outcome own listed

abbrev pub listed_state : Option (Option DeliveryState) → Option DeliveryState
listed_state None = None
listed_state (Some s) = s

-- how a message goes on by what was decided, or else the state that it ended with
abbrev pub carried_out : UnsettledMessage → Option (Option DeliveryState) → Decision
    → Option ResumingDelivery × Option DeliveryState
carried_out local listed Resend = (Some (resuming.Resend local), None)
carried_out local listed (ResumeFrom place) = (Some (resuming.Resume local place), None)
carried_out local listed Abort = (Some (resuming.Abort local.message_format true), None)
carried_out local listed Restate = (Some (resuming.RestateOutcome local), None)
carried_out local listed ResolveAsTold = (None, local.state)
carried_out local listed ResolveAsListed = (None, listed_state listed)

abbrev pub resumption : UnsettledMessage → Option (Option DeliveryState)
    → Option ResumingDelivery × Option DeliveryState
resumption local listed = carried_out local listed (decision local.state listed)
