-- What the peer's Attach makes of the open messages of a sending link: part 2, 2.6.13 and 2.7.3, and part 3, 3.4.6.
use Rattle.std.specs.Prelude.{ℕ, ◌==◌, ◌^◌, ◌++◌, not, Bool, false, List, [], ◌∷◌, length, nat_lt, Option, Some, None}
use Rattle.std.specs.Prelude.{is_some, if◌then◌else◌}
use Rattle.std.specs.Map.{lookup}
use Rattle.std.specs.Str.{bytes_eq}
use Rattle.amqp_session_states.specs.declared.delivery_state.DeliveryState.{DeliveryState}
use Rattle.amqp_session_states.specs.declared.received.Received.{Received}
use Rattle.amqp_link_base.specs.Starts.{read_at}
use Rattle.amqp_link_unsettled.specs.Resumption.{decision, listed_state}
use Rattle.amqp_link_unsettled.specs.declared.resumption.Decision.{Decision}
use Rattle.amqp_link_unsettled.specs.declared.resumption.Decision.TheVariants as decided
use Rattle.amqp_link_unsettled.specs.declared.exchanging.Abort.{Abort as GivenUp}
use Rattle.amqp_link_unsettled.specs.declared.fate.Fate.{Fate}
use Rattle.amqp_link_unsettled.specs.declared.fate.Fate.TheVariants.{Undecided, SendOn, End, Abort}
use Rattle.amqp_link_unsettled.specs.declared.open.Open.{Open}
use Rattle.amqp_link_unsettled.specs.declared.open.Resumption.{Resumption}
use Rattle.amqp_link_unsettled.specs.declared.open.Resumption.TheVariants.{Resend, Resume}
use Rattle.amqp_link_unsettled.specs.declared.open.Waiting.{Waiting}
use Rattle.amqp_link_unsettled.specs.declared.resolution.Resolution.{Resolution}
use Rattle.amqp_link_unsettled.specs.declared.resolution.Resolution.TheVariants.{Aborted}
use Rattle.amqp_link_unsettled.specs.Messages.{MessageLists, interrupted, open_at, resolved_as}
use Rattle.amqp_link_unsettled.specs.Resolutions.{resolution_of}

-- the peer's unsettled deliveries by their tags, each with a state or null; none where the peer lists none
abbrev pub Listing : Type 0
Listing = Option (List (List ℕ × Option DeliveryState))

-- what the peer lists of a message
abbrev pub listed_of : Listing → List ℕ → Option (Option DeliveryState)
listed_of None tag = None
listed_of (Some list) tag = lookup (bytes_eq tag) list

-- how many bytes of a message stand before a place; none where there is no such place in it
abbrev pub bytes_before : List ℕ → Received → Option ℕ
bytes_before payload place = if nat_lt (length payload) (2 ^ 32) then read_at payload place else None

-- bytes of a message are left behind so many, or are there at all where the place of its receiver can't be read
abbrev pub is_left_behind : List ℕ → Option ℕ → Bool
is_left_behind payload None = not (length payload == 0)
is_left_behind payload (Some n) = nat_lt n (length payload)

-- the receiver has a part of the message, and bytes of it are left
abbrev pub goes_on : Open → Resumption → Bool
goes_on m Resend = false
goes_on m (Resume place) = is_left_behind m.payload (bytes_before m.payload place)

-- what is decided of a message; one of which an outcome is known ends with that
abbrev pub by_decision : Open → Option (Option DeliveryState) → Decision → Fate
by_decision m listed decided.Resend = SendOn Resend
by_decision m listed (decided.ResumeFrom place) = SendOn (Resume place)
by_decision m listed decided.Abort = Abort
by_decision m listed decided.Restate = End (resolution_of m.state)
by_decision m listed decided.ResolveAsTold = End (resolution_of m.state)
by_decision m listed decided.ResolveAsListed = End (resolution_of (listed_state listed))

-- a message that isn't listed is decided only where the list is complete
abbrev pub fate_of : Bool → Open → Option (Option DeliveryState) → Fate
fate_of incomplete m None = if incomplete then Undecided else by_decision m None (decision m.state None)
fate_of incomplete m (Some state) = by_decision m (Some state) (decision m.state (Some state))

-- what becomes of messages: those that end, with what becomes of them; those that go on and those that are sent from
-- their start or have no bytes left, as they are to be sent on; and those that are given up
pub record Becoming : Type 0 where
  pub ended : List (List ℕ × Resolution)
  pub going : List Waiting
  pub others : List Waiting
  pub aborts : List GivenUp

abbrev pub nothing : Becoming
nothing = record { ended = []; going = []; others = []; aborts = [] }

abbrev pub ends_too : Becoming → List ℕ → Resolution → Becoming
ends_too b tag resolution = record b { ended = b.ended ++ (tag, resolution) ∷ [] }

abbrev pub waits_too : Becoming → Bool → Waiting → Becoming
waits_too b going w =
    if going then record b { going = b.going ++ w ∷ [] } else record b { others = b.others ++ w ∷ [] }

abbrev pub given_up_too : Becoming → GivenUp → Becoming
given_up_too b abort = record b { aborts = b.aborts ++ abort ∷ [] }

-- with one message more
abbrev pub with_message : Becoming → List ℕ → Open → Fate → Becoming
with_message b tag m Undecided = b
with_message b tag m (SendOn resumption) =
    waits_too b (goes_on m resumption) (record { tag = tag; resumption = resumption })
with_message b tag m (End resolution) = ends_too b tag resolution
with_message b tag m Abort =
    given_up_too (ends_too b tag Aborted) (record { tag = tag; message_format = m.message_format })

-- with all of these, in their order
abbrev pub with_messages : Listing → Bool → Becoming → List (List ℕ × Open) → Becoming
with_messages listed incomplete b [] = b
with_messages listed incomplete b (e ∷ es) =
    with_messages listed incomplete (with_message b e.0 e.1 (fate_of incomplete e.1 (listed_of listed e.0))) es

-- what becomes of all open messages
abbrev pub becoming : MessageLists → Listing → Bool → Becoming
becoming s listed incomplete = with_messages listed incomplete nothing s.unsettled

-- a message ends, if it is open
abbrev pub ended_at : MessageLists → List ℕ → Resolution → Option Open → MessageLists
ended_at s tag resolution None = s
ended_at s tag resolution (Some m) = resolved_as s tag resolution

-- messages end one after the other
abbrev pub all_ended : MessageLists → List (List ℕ × Resolution) → MessageLists
all_ended s [] = s
all_ended s (e ∷ es) = all_ended (ended_at s e.0 e.1 (open_at s e.0)) es

-- a delivery that isn't known is given up
abbrev pub unless_known : Bool → List ℕ → List GivenUp → List GivenUp
unless_known known tag rest = if known then rest else (record { tag = tag; message_format = 0 } ∷ rest)

-- the deliveries that the peer lists and the link doesn't know
abbrev pub unknown : MessageLists → List (List ℕ × Option DeliveryState) → List GivenUp
unknown s [] = []
unknown s (x ∷ xs) = unless_known (is_some (open_at s x.0)) x.0 (unknown s xs)

abbrev pub unknown_of : MessageLists → Listing → List GivenUp
unknown_of s None = []
unknown_of s (Some list) = unknown s list

-- the deliveries that are given up: messages of the link in their order, then those that only the peer knows
abbrev pub aborts : MessageLists → Listing → Bool → List GivenUp
aborts s listed incomplete = (becoming s listed incomplete).aborts ++ unknown_of s listed

-- what an Attach makes of the open messages: those that end, those that wait to be sent on, in the order in which they
-- go, and the deliveries that are given up
pub record Plan : Type 0 where
  pub ended : List (List ℕ × Resolution)
  pub waiting : List Waiting
  pub aborts : List GivenUp

-- those wait first of which bytes are left behind what the receiver has
abbrev pub planned : MessageLists → Listing → Bool → Plan
planned s listed incomplete =
    record {
      ended = (becoming s listed incomplete).ended;
      waiting = (becoming s listed incomplete).going ++ (becoming s listed incomplete).others;
      aborts = aborts s listed incomplete;
    }

-- the messages end that are to end; then those wait that are to be sent on
abbrev pub carried_out : MessageLists → Plan → MessageLists
carried_out s plan = record (all_ended (interrupted s) plan.ended) { waiting = plan.waiting }

abbrev pub exchanged : MessageLists → Listing → Bool → MessageLists
exchanged s listed incomplete = carried_out s (planned s listed incomplete)
