-- Links that are closed since the peer takes no frame that settles their deliveries (part 2, 2.4.1, 2.6.6, 2.6.12,
-- 2.7.6).
use Rattle.std.specs.Prelude.{◌≡◌, ◌≤◌, ℕ, ◌+◌, ◌==◌, ◌&&◌, ◌||◌, ◌++◌, nat_le, Bool, true, false, List, [], ◌∷◌, map}
use Rattle.std.specs.Prelude.{Some, None, option_map, if◌then◌else◌}
use Rattle.amqp_session_types.specs.declared.handles.OutputHandle.{OutputHandle}
use Rattle.amqp_session_performatives.specs.declared.session_frame.SessionFrame.{SessionFrame}
use Rattle.amqp_session_outgoing.specs.Range.{ahead}
use Rattle.amqp_session_core.specs.State.{link_at}
use Rattle.amqp_session_core.specs.declared.dispositions.Touched.{Touched}
use Rattle.amqp_endpoint_model.specs.declared.error.EndpointError.TheVariants.{FrameTooLarge}
use Rattle.amqp_endpoint_model.specs.declared.event.Event.{Event}
use Rattle.amqp_endpoint_model.specs.declared.event.Event.TheVariants as event
use Rattle.amqp_endpoint_model.specs.State.{error_of}
use Rattle.amqp_endpoint_model.specs.Step.{not_allowed}
use Rattle.amqp_endpoint_tables.specs.State.{live_at}
use Rattle.amqp_endpoint_attached.specs.Detaching.{is_there}
use Rattle.amqp_endpoint_attached.specs.Linked.{Linked, end_at}
use Rattle.amqp_endpoint_messages.specs.All.{TellsFirst, first_told, open_count}
use Rattle.amqp_endpoint_messages.specs.Outcomes.{NoneUntold}
use Rattle.amqp_endpoint_linking.specs.Handed.{Tells}
use Rattle.amqp_endpoint_linking.specs.Linking.{Link, Session, Talk}
use Rattle.amqp_endpoint_link_hearing.specs.InSession.{Closes, GoesOn}
use Rattle.amqp_endpoint_link_hearing.specs.Leaving.{HasPlace}
use Rattle.amqp_endpoint_link_hearing.specs.Naming.{link_of}
use Rattle.amqp_endpoint_link_hearing.specs.declared.unechoed.Closing.{Closing}

-- A number lies in a run, of which its first and its last number are said, on a circle of 2^32 (part 2, 2.8.10).
abbrev pub lies_in : ℕ → ℕ × ℕ → Bool
lies_in number run = nat_le (ahead number run.0) (ahead run.1 run.0)

-- Or in one of these.
abbrev pub lies_in_one : ℕ → List (ℕ × ℕ) → Bool
lies_in_one number [] = false
lies_in_one number (run ∷ runs) = lies_in number run || lies_in_one number runs

-- A delivery in one of these runs is of the link with this own handle.
abbrev pub is_in : List (ℕ × ℕ) → ℕ → Touched → Bool
is_in runs handle delivery = delivery.handle.0 == handle && lies_in_one delivery.number runs

-- Or one of these deliveries is.
abbrev pub has_one : List (ℕ × ℕ) → ℕ → List Touched → Bool
has_one runs handle [] = false
has_one runs handle (delivery ∷ rest) = is_in runs handle delivery || has_one runs handle rest

-- The own handles of the links of deliveries, each once, in the order in which the first of each comes.
abbrev pub is_among : ℕ → List OutputHandle → Bool
is_among handle [] = false
is_among handle (first ∷ rest) = first.0 == handle || is_among handle rest

abbrev pub with_handle : List OutputHandle → OutputHandle → List OutputHandle
with_handle handles handle = if is_among handle.0 handles then handles else handles ++ handle ∷ []

abbrev pub handles_behind : List OutputHandle → List Touched → List OutputHandle
handles_behind handles [] = handles
handles_behind handles (delivery ∷ rest) = handles_behind (with_handle handles delivery.handle) rest

abbrev pub handles_of : List Touched → List OutputHandle
handles_of deliveries = handles_behind [] deliveries

-- This is told of a link that is closed so.
abbrev pub too_large_told : ℕ → ℕ → List Event
too_large_told session link =
    event.Refused (record { session = session; link = Some link; error = FrameTooLarge }) ∷ []

-- A link of a session tells of so many of the messages that ended and that it hasn't told of yet.
abbrev pub TellsSome : ℕ → OutputHandle → Linked → Linked → Type 0
TellsSome count handle old new = TellsFirst count handle (link_at old.session handle.0) old new

-- The link with this own handle is closed: its own closing Detach says that this isn't allowed (part 2, 2.8.15), and is
-- handed out, or waits behind what the link has waiting. That is told, and behind it the outcomes of as many messages
-- as are open, which end without one.
pub record IsRefused (session : ℕ) (handle : OutputHandle) (old : Talk) (frames : List SessionFrame)
    (events : List Event) (new : Talk) : Type 0 where
  pub link : Link
  pub there : link_of old session handle ≡ Some link
  pub mid : Talk
  pub closes : GoesOn (Closes (Some (error_of not_allowed)) handle frames) old session mid
  pub fails : GoesOn (TellsSome (open_count (Some link.link)) handle) mid session new
  pub tells : events ≡ too_large_told session link.number
      ++ first_told (open_count (Some link.link)) None (link_of mid session handle)

abbrev pub RefusedIf : Bool → ℕ → OutputHandle → Talk → List SessionFrame → List Event → Talk → Type 0
RefusedIf true session handle old frames events new = IsRefused session handle old frames events new
RefusedIf false session handle old frames events new = (frames ≡ []) × (events ≡ []) × (new ≡ old)

-- An attached link has the handle.
abbrev pub is_attached_at : Talk → ℕ → OutputHandle → Bool
is_attached_at talk session handle = is_there (option_map (λ (l : Link). l.link) (link_of talk session handle))

-- And one of the deliveries in one of the runs is its.
abbrev pub is_refused : Talk → ℕ → List (ℕ × ℕ) → List Touched → OutputHandle → Bool
is_refused talk session runs deliveries handle =
    is_attached_at talk session handle && has_one runs handle.0 deliveries

-- Of the links with these handles each is closed of which that is so, one after the other.
abbrev pub Refuses : ℕ → List (ℕ × ℕ) → List Touched → List OutputHandle → Talk → List SessionFrame → List Event → Talk
    → Type 0
Refuses session runs deliveries [] old frames events new = (frames ≡ []) × (events ≡ []) × (new ≡ old)
Refuses session runs deliveries (handle ∷ handles) old frames events new =
    (own : List SessionFrame) × (told : List Event) × (mid : Talk) × (later : List SessionFrame)
    × (later_told : List Event)
    × RefusedIf (is_refused old session runs deliveries handle) session handle old own told mid
    × Refuses session runs deliveries handles mid later later_told new
    × (frames ≡ own ++ later) × (events ≡ told ++ later_told)

-- The same, with what was to be sent before and is to be sent then, and with what was told.
abbrev pub RefusesBehind : ℕ → List (ℕ × ℕ) → List Touched → List OutputHandle → Talk → List SessionFrame → List Event
    → Talk → List SessionFrame → List Event → Type 0
RefusesBehind session runs deliveries [] old out told new out_new told_new =
    (new ≡ old) × (out_new ≡ out) × (told_new ≡ told)
RefusesBehind session runs deliveries (handle ∷ handles) old out told new out_new told_new =
    (mid : Talk) × (out_mid : List SessionFrame) × (told_mid : List Event)
    × Tells (λ (frames : List SessionFrame) (events : List Event).
    RefusedIf (is_refused old session runs deliveries handle) session handle old frames events mid) out told out_mid
    told_mid
    × RefusesBehind session runs deliveries handles mid out_mid told_mid new out_new told_new

-- No link of a session that has begun has a message that ended and wasn't told.
abbrev pub NoneUntoldIn : Talk → ℕ → Type 0
NoneUntoldIn talk session = (s : Session) → live_at talk.sessions session ≡ Some s → NoneUntold s.value.session

-- What is made ready to close a link: its Detach says that this isn't allowed, there is a place for it, and there are
-- no more messages open than are counted.
pub record IsMade (s : Linked) (closing : Closing) : Type 0 where
  pub says : closing.answer.error ≡ Some (error_of not_allowed)
  pub place : HasPlace s closing.handle true closing.answer.error closing.answer.place
  pub most : open_count (end_at s closing.handle) ≤ closing.count

-- It serves in a session that has begun.
abbrev pub MadeIn : Talk → ℕ → Closing → Type 0
MadeIn talk session closing = (s : Session) → live_at talk.sessions session ≡ Some s → IsMade s.value closing

-- It does where the link is attached.
abbrev pub CanClose : Talk → ℕ → Closing → Type 0
CanClose talk session closing =
    (s : Session) → live_at talk.sessions session ≡ Some s → is_there (end_at s.value closing.handle) ≡ true
    → IsMade s.value closing

-- The handles of what is made ready, and how many events it tells at most.
abbrev pub handles_in : List Closing → List OutputHandle
handles_in closings = map (λ (c : Closing). c.handle) closings

abbrev pub told_most : List Closing → ℕ
told_most [] = 0
told_most (closing ∷ rest) = (closing.count + 1) + told_most rest

-- Closings are made for each link that has one of these deliveries, unless none will be closed.
abbrev pub AreFor : Bool → List Touched → List OutputHandle → Type 0
AreFor true deliveries handles = handles ≡ []
AreFor false deliveries handles = handles ≡ handles_of deliveries
