-- The messages of a sending link, and what becomes of them: part 2, 2.6.12 and 2.6.13.
use Rattle.std.specs.Prelude.{ℕ, ◌-◌, ◌++◌, not, Bool, List, [], ◌∷◌, Option, Some, None, map, filter, if◌then◌else◌}
use Rattle.std.specs.Map.{keys_of, lookup, remove_entry, set_value}
use Rattle.std.specs.Str.{bytes_eq}
use Rattle.amqp_session_states.specs.declared.delivery_state.DeliveryState.{DeliveryState}
use Rattle.amqp_link_unsettled.specs.declared.open.Open.{Open}
use Rattle.amqp_link_unsettled.specs.declared.open.Waiting.{Waiting}
use Rattle.amqp_link_unsettled.specs.declared.resolution.Failure.{Failure}
use Rattle.amqp_link_unsettled.specs.declared.resolution.Resolution.{Resolution}
use Rattle.amqp_link_unsettled.specs.declared.resolution.Resolution.TheVariants.{Failed}
use Rattle.amqp_link_unsettled.specs.Resolutions.{resolution_of, ends}
use Rattle.amqp_link_unsettled.specs.Told.{told}

-- the open messages by their tags, in the order in which they were accepted; those that came to an end, with what
-- became of them, in the order of that; those that wait to be sent on, in the order in which they go; and for how many
-- more messages there is room
pub record MessageLists : Type 0 where
  pub unsettled : List (List ℕ × Open)
  pub resolved : List (List ℕ × Resolution)
  pub waiting : List Waiting
  pub room : ℕ

-- no message, and no room
abbrev pub no_messages : MessageLists
no_messages = record { unsettled = []; resolved = []; waiting = []; room = 0 }

-- the first of those that wait
abbrev pub first_of : List Waiting → Option Waiting
first_of [] = None
first_of (w ∷ ws) = Some w

-- of those that came to an end, the first
abbrev pub first_ended : List (List ℕ × Resolution) → Option (List ℕ × Resolution)
first_ended [] = None
first_ended (m ∷ ms) = Some m

-- the open message with this tag
abbrev pub open_at : MessageLists → List ℕ → Option Open
open_at s tag = lookup (bytes_eq tag) s.unsettled

-- a message that was sent unsettled is open from then on
abbrev pub opened : MessageLists → Open → MessageLists
opened s message = record s { unsettled = s.unsettled ++ (message.tag, message) ∷ []; room = s.room - 1 }

-- those that wait, without the message with this tag
abbrev pub waiting_but : List ℕ → List Waiting → List Waiting
waiting_but tag waiting = filter (λ w. not (bytes_eq tag w.tag)) waiting

-- the open message with this tag comes to its end
abbrev pub resolved_as : MessageLists → List ℕ → Resolution → MessageLists
resolved_as s tag resolution =
    record s {
      unsettled = remove_entry (bytes_eq tag) s.unsettled;
      resolved = s.resolved ++ (tag, resolution) ∷ [];
      waiting = waiting_but tag s.waiting;
    }

-- the peer told this state of a message, where it is open
abbrev pub told_at : List (List ℕ × Open) → List ℕ → Option Open → Option DeliveryState → List (List ℕ × Open)
told_at unsettled tag None state = unsettled
told_at unsettled tag (Some message) state = set_value (bytes_eq tag) unsettled (told message state)

-- a disposition of a message that is open, or isn't
abbrev pub disposed_at : MessageLists → List ℕ → Option Open → Bool → Option DeliveryState → MessageLists
disposed_at s tag None settled state = s
disposed_at s tag (Some message) settled state =
    if ends settled state then resolved_as s tag
    (resolution_of state) else record s { unsettled = told_at s.unsettled tag (Some message) state }

-- a disposition of the message with this tag: it ends where it is settled or the state is terminal, else the state is
-- noted; of a message that isn't open it says nothing
abbrev pub disposed : MessageLists → List ℕ → Bool → Option DeliveryState → MessageLists
disposed s tag settled state = disposed_at s tag (open_at s tag) settled state

-- the link is gone: all open messages end without an outcome, in order
abbrev pub failed : MessageLists → Failure → MessageLists
failed s failure =
    record s {
      unsettled = [];
      resolved = s.resolved ++ map (λ tag. (tag, Failed failure)) (keys_of s.unsettled);
      waiting = [];
    }

-- the attachment is over: nothing is sent on any more
abbrev pub interrupted : MessageLists → MessageLists
interrupted s = record s { waiting = [] }
