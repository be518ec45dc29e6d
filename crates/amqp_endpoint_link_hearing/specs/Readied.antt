-- What is made ready for a link that waits for the peer's Attach (part 2, 2.6.3, 2.6.6, 2.6.13).
use Rattle.std.specs.Prelude.{◌≡◌, ◌<◌, ℕ, All, Option, Some, None, Ok, IsSome}
use Rattle.amqp_session_types.specs.declared.channels.IncomingChannel.{IncomingChannel}
use Rattle.amqp_session_types.specs.declared.handles.OutputHandle.{OutputHandle}
use Rattle.amqp_session_performatives.specs.declared.attach.Attach.{Attach}
use Rattle.amqp_link.specs.declared.relay.AttachTold.{AttachTold}
use Rattle.amqp_link_sender.specs.declared.attaching.Attaching.{Attaching}
use Rattle.amqp_endpoint_links.specs.declared.asking.NamedLink.{NamedLink}
use Rattle.amqp_endpoint_links.specs.declared.asking.NamedLink.TheVariants.{Waiting}
use Rattle.amqp_endpoint_model.specs.State.{error_of}
use Rattle.amqp_endpoint_model.specs.Step.{not_allowed}
use Rattle.amqp_endpoint_tables.specs.State.{live_at, reached}
use Rattle.amqp_endpoint_attached.specs.Linked.{Linked, end_at}
use Rattle.amqp_endpoint_messages.specs.All.{open_count}
use Rattle.amqp_endpoint_messages.specs.GivingUp.{IsBare, planned_at}
use Rattle.amqp_endpoint_messages.specs.GoingOn.{HasRoomToSend}
use Rattle.amqp_endpoint_messages.specs.MadeReady.{HasPlaceToClose, IsClosing, IsMadeReady}
use Rattle.amqp_endpoint_messages.specs.declared.giving_up.Closing.{Closing}
use Rattle.amqp_endpoint_messages.specs.declared.going_on.AttachReady.{AttachReady}
use Rattle.amqp_endpoint_linking.specs.Linking.{Session, Talk}
use Rattle.amqp_endpoint_link_hearing.specs.Attaching.{outcome_of}
use Rattle.amqp_endpoint_link_hearing.specs.Naming.{link_of}
use Rattle.amqp_endpoint_link_hearing.specs.declared.hearing.Took.{Took}
use Rattle.amqp_endpoint_link_hearing.specs.declared.hearing.Took.TheVariants as took

-- a link waits for the Attach in the session that the channel reaches, which has begun, and this is what it is closed
-- with
pub record WaitsOn (talk : Talk) (channel : IncomingChannel) (named : NamedLink) (closing : Closing) : Type 0 where
  pub waits : named ≡ Waiting closing.handle
  pub reaches : reached talk.sessions channel.0 ≡ Some closing.session
  pub session : Session
  pub live : live_at talk.sessions closing.session ≡ Some session
  pub is :
      IsClosing session.value closing.session closing.handle (open_count (end_at session.value closing.handle)) closing

-- none waits in such a session
abbrev pub NoneWaits : Talk → IncomingChannel → NamedLink → Type 0
NoneWaits talk channel named =
    (handle : OutputHandle) (number : ℕ) (s : Session) → named ≡ Waiting handle
    → reached talk.sessions channel.0 ≡ Some number → live_at talk.sessions number ≡ Some s → ⊥

abbrev pub ClosesOn : Talk → IncomingChannel → NamedLink → Option Closing → Type 0
ClosesOn talk channel named None = NoneWaits talk channel named
ClosesOn talk channel named (Some closing) = WaitsOn talk channel named closing

-- so many of its messages are open
abbrev pub count_in : Option Closing → ℕ
count_in None = 0
count_in (Some closing) = closing.count

abbrev pub count_of : Option AttachReady → ℕ
count_of None = 0
count_of (Some ready) = ready.closing.count

-- there is a place for its Detach in its session, which has begun
pub record HasPlaceIn (talk : Talk) (closing : Closing) : Type 0 where
  pub session : Session
  pub live : live_at talk.sessions closing.session ≡ Some session
  pub place : HasPlaceToClose session.value closing

abbrev pub HasItsPlace : Talk → Option Closing → Type 0
HasItsPlace talk None = Unit {0}
HasItsPlace talk (Some closing) = HasPlaceIn talk closing

-- what the Attach leaves to be done for the link with this own handle in the session with this number is made ready,
-- with room among so many frames; no Flow is kept of such a link, and nothing goes on
pub record IsReady (limit : ℕ) (s : Linked) (number : ℕ) (handle : OutputHandle) (attach : Attach) (len capacity : ℕ)
    (ready : AttachReady) : Type 0 where
  pub closing : IsClosing s number handle (open_count (end_at s handle)) ready.closing
  pub giving : IsMadeReady limit handle (planned_at (end_at s handle) attach) ready.giving
  pub sends : HasRoomToSend ready s len capacity
  pub bare : All IsBare ready.giving.batches.items
  pub none : ready.on ≡ None

-- where a link waits
abbrev pub ReadyFor : ℕ → Linked → ℕ → NamedLink → Attach → (len capacity : ℕ) → Option AttachReady → Type 0
ReadyFor limit s number (Waiting handle) attach len capacity (Some ready) =
    IsReady limit s number handle attach len capacity ready
ReadyFor limit s number (Waiting handle) attach len capacity None = ⊥
ReadyFor limit s number named attach len capacity ready = Unit {0}

-- in the session that the channel reaches, if that has begun
abbrev pub Readies : ℕ → Talk → IncomingChannel → NamedLink → Attach → (len capacity : ℕ) → Option AttachReady
    → Type 0
Readies limit talk channel named attach len capacity ready =
    (number : ℕ) (s : Session) → reached talk.sessions channel.0 ≡ Some number
    → live_at talk.sessions number ≡ Some s → ReadyFor limit s.value number named attach len capacity ready

-- what was made ready serves the link with this own handle in the session with this number, once that took the Attach,
-- or refused it
pub record ServesFor (talk : Talk) (number : ℕ) (own : OutputHandle) (len capacity : ℕ) (ready : AttachReady) : Type 0
  where
    pub session : ready.closing.session ≡ number
    pub handle : ready.closing.handle ≡ own
    pub there : IsSome (link_of talk number own)
    pub sends : (s : Session) → live_at talk.sessions number ≡ Some s → HasRoomToSend ready s.value len capacity
    pub bare : All IsBare ready.giving.batches.items
    pub none : ready.on ≡ None
    pub why : ready.closing.why ≡ error_of not_allowed

abbrev pub ServesItsOwn : Talk → (len capacity : ℕ) → AttachReady → Type 0
ServesItsOwn talk len capacity ready =
    ServesFor talk ready.closing.session ready.closing.handle len capacity ready

-- where one took it
abbrev pub Serves : Talk → Took → NamedLink → (len capacity : ℕ) → Option AttachReady → Type 0
Serves talk (took.ByLink session answer) (Waiting handle) len capacity (Some ready) =
    ServesFor talk session handle len capacity ready
Serves talk (took.ByLink session answer) (Waiting handle) len capacity None = ⊥
Serves talk it named len capacity ready = Unit {0}

-- it is what the Attach leaves to be done, where the link accepts that
abbrev pub IsToBeDone : ℕ → AttachTold → AttachReady → Type 0
IsToBeDone limit answer ready =
    (attaching : Attaching) → outcome_of answer ≡ Ok attaching
    → IsMadeReady limit ready.closing.handle attaching.aborts ready.giving

abbrev pub IsToBeDoneBy : ℕ → Took → NamedLink → Option AttachReady → Type 0
IsToBeDoneBy limit (took.ByLink session answer) (Waiting handle) (Some ready) = IsToBeDone limit answer ready
IsToBeDoneBy limit it named ready = Unit {0}

-- the link is closed in its session, where there is room for its Detach among so many frames
pub record ClosesIn (talk : Talk) (len capacity : ℕ) (closing : Closing) : Type 0 where
  pub there : IsSome (link_of talk closing.session closing.handle)
  pub place : (s : Session) → live_at talk.sessions closing.session ≡ Some s → HasPlaceToClose s.value closing
  pub spare : len < capacity
  pub why : closing.why ≡ error_of not_allowed
