-- How a link sends its open messages on, once it has credit again: part 2, 2.6.7, 2.6.12, 2.6.13, 2.7.5.
use Rattle.std.specs.Prelude.{◌≡◌, ◌⊎◌, ◌+◌, ◌≤◌, ℕ, List, [], ◌∷◌, ◌++◌, All, Bool, true, false, Option, Some, None}
use Rattle.std.specs.Prelude.{length}
use Rattle.amqp_session_types.specs.declared.error.Error.{Error}
use Rattle.amqp_session_types.specs.declared.handles.OutputHandle.{OutputHandle}
use Rattle.amqp_session_performatives.specs.declared.session_frame.SessionFrame.{SessionFrame}
use Rattle.amqp_session_outgoing.specs.Frames.{HaveTags}
use Rattle.amqp_session_outgoing.specs.History.{HasFreeNumbers}
use Rattle.amqp_session_outgoing.specs.Queues.{frames_in}
use Rattle.amqp_session_core.specs.Batch.{Transfers}
use Rattle.amqp_session_core.specs.Steps.{Changes, Step}
use Rattle.amqp_session_core.specs.Told.{TransfersSent}
use Rattle.amqp_link_unsettled.specs.declared.open.Open.{Open}
use Rattle.amqp_link_unsettled.specs.declared.open.Resumption.{Resumption}
use Rattle.amqp_link_sender.specs.Room.{room_of}
use Rattle.amqp_link_sender.specs.SendsOn.{prepared_on}
use Rattle.amqp_link_sender.specs.Splitting.{Splits}
use Rattle.amqp_link_sender.specs.declared.sending_on.PreparedSendOn.{PreparedSendOn}
use Rattle.amqp_link.specs.GoingOn.{HasCreditFor, goes_on, sent_on}
use Rattle.amqp_link.specs.declared.end.End.{End}
use Rattle.amqp_endpoint_fitting.specs.Fits.{UnitFits}
use Rattle.amqp_endpoint_links.specs.declared.numbered.Numbered.{Numbered}
use Rattle.amqp_endpoint_model.specs.declared.error.EndpointError.{EndpointError}
use Rattle.amqp_endpoint_model.specs.declared.event.Event.{Event}
use Rattle.amqp_endpoint_attached.specs.Linked.{Linked, LinksIn, end_at, gives}
use Rattle.amqp_endpoint_messages.specs.GivingUp.{ClosedFor, stuck_by}
use Rattle.amqp_endpoint_messages.specs.MadeReady.{HasPlaceToClose}
use Rattle.amqp_endpoint_messages.specs.Sending.{on_handle}
use Rattle.amqp_endpoint_messages.specs.declared.sending_on.FlowReady.{FlowReady}
use Rattle.amqp_endpoint_messages.specs.declared.sending_on.SendingOn.{SendingOn}

-- A message that is sent on: its transfers on its link's own handle, each of which fits the peer's frames, on any channel
-- and whatever number its delivery gets (part 2, 2.4.1).
pub record IsCutOn (limit : ℕ) (handle : OutputHandle) (ready : PreparedSendOn) (batch : Transfers) : Type 0 where
  pub room : ℕ
  pub is_room : room_of (on_handle handle ready.transfer) limit ≡ Some room
  pub splits : Splits (on_handle handle ready.transfer) ready.payload room batch
  pub fit : (channel : ℕ) → All (UnitFits channel limit handle.0) batch

-- The transfers of these messages, up to the first for which no frame has room for a byte; and whether there is none
-- such.
abbrev pub AreCutOn : ℕ → OutputHandle → List PreparedSendOn → List Transfers → Bool → Type 0
AreCutOn limit handle [] batches all = (batches ≡ []) × (all ≡ true)
AreCutOn limit handle (ready ∷ others) [] all =
    (room_of (on_handle handle ready.transfer) limit ≡ None) × (all ≡ false)
AreCutOn limit handle (ready ∷ others) (batch ∷ batches) all =
    IsCutOn limit handle ready batch × AreCutOn limit handle others batches all

-- That of one of them, where a frame has room for a byte of it.
abbrev pub CutsOn : ℕ → OutputHandle → PreparedSendOn → Option Transfers → Type 0
CutsOn limit handle ready None = room_of (on_handle handle ready.transfer) limit ≡ None
CutsOn limit handle ready (Some batch) = IsCutOn limit handle ready batch × HaveTags batch

-- A link takes one credit for the first of its messages that go on, and that waits no more (2.6.7).
pub record TakesCredit (handle : OutputHandle) (old new : LinksIn) : Type 0 where
  pub link : Numbered End
  pub changed : Step gives old (Changes handle.0 link (record link { link = sent_on link.link })) new

-- Its session takes the transfers of that message, and hands out what the peer's window allows.
pub record IsSentOn (handle : OutputHandle) (batch : Transfers) (old : LinksIn) (out : List SessionFrame) (new : LinksIn)
    (out_new : List SessionFrame) : Type 0 where
  pub taken : LinksIn
  pub sends : TransfersSent gives old out handle batch taken out_new
  pub takes : TakesCredit handle taken new

-- Message after message goes on, up to the first whose delivery's number is that of an unsettled one, or of one that
-- waits: there it stops (2.8.6).
abbrev pub AreSentOn : OutputHandle → List Transfers → LinksIn → List SessionFrame → Bool → LinksIn → List SessionFrame
    → Type 0
AreSentOn handle [] old out stopped new out_new = (stopped ≡ false) × (new ≡ old) × (out_new ≡ out)
AreSentOn handle (batch ∷ batches) old out stopped new out_new =
    ((mid : LinksIn) × (out_mid : List SessionFrame) × IsSentOn handle batch old out mid out_mid
    × AreSentOn handle batches mid out_mid stopped new out_new)
    ⊎ ((HasFreeNumbers old.outgoing batch → ⊥) × (new ≡ old) × (out_new ≡ out) × (stopped ≡ true))

-- A link sends these messages on, in their order, up to the first for which it can't.
pub record SendsOn (limit : ℕ) (handle : OutputHandle) (ons : List PreparedSendOn) (old : Linked)
    (out : List SessionFrame) (stuck : Option EndpointError) (new : Linked) (out_new : List SessionFrame) : Type 0 where
  pub batches : List Transfers
  pub all : Bool
  pub cut : AreCutOn limit handle ons batches all
  pub stopped : Bool
  pub sent : AreSentOn handle batches old.session out stopped new.session out_new
  pub is : stuck ≡ stuck_by stopped all
  pub rest : new ≡ record old { session = new.session }

-- It is closed where it can't.
abbrev pub ClosesWhere : Option EndpointError → (session count : ℕ) → OutputHandle → Error → List SessionFrame
    → List Event → Linked → Linked → Type 0
ClosesWhere None session count handle why frames events old new = (frames ≡ []) × (events ≡ []) × (new ≡ old)
ClosesWhere (Some error) session count handle why frames events old new =
    ClosedFor session error count handle why frames events old new

-- A link that has credit for these messages, in the session with this number: it sends them on, and is closed where it
-- can't; so many of its messages were open.
pub record CreditedAt (limit session count : ℕ) (handle : OutputHandle) (why : Error) (ons : List PreparedSendOn)
    (frames : List SessionFrame) (events : List Event) (old new : Linked) : Type 0 where
  pub stuck : Option EndpointError
  pub on : List SessionFrame
  pub gone : Linked
  pub sends_on : SendsOn limit handle ons old [] stuck gone on
  pub down : List SessionFrame
  pub closes : ClosesWhere stuck session count handle why down events gone new
  pub frames_are : frames ≡ on ++ down

-- These frames are handed out behind others, and these events told.
pub record DoesCredited (limit session count : ℕ) (handle : OutputHandle) (why : Error) (ons : List PreparedSendOn)
    (old : Linked) (out : List SessionFrame) (told : List Event) (new : Linked) (out_new : List SessionFrame)
    (told_new : List Event) : Type 0 where
  pub frames : List SessionFrame
  pub events : List Event
  pub does : CreditedAt limit session count handle why ons frames events old new
  pub queued : out_new ≡ out ++ frames
  pub are_told : told_new ≡ told ++ events

-- What goes on of a link with the credit that it has.
abbrev pub goes_on_at : Option End → List PreparedSendOn
goes_on_at None = []
goes_on_at (Some link) = goes_on link

-- A message that goes on is open, and is sent anew or resumed.
pub record IsOn (ready : PreparedSendOn) : Type 0 where
  pub message : Open
  pub resumption : Resumption
  pub is : ready ≡ prepared_on message resumption

-- How many transfers there are in all.
abbrev pub transfers_in : List Transfers → ℕ
transfers_in [] = 0
transfers_in (batch ∷ batches) = length batch + transfers_in batches

-- The messages that go on, made ready.
pub record AreReadyOn (limit : ℕ) (handle : OutputHandle) (ons : List PreparedSendOn) (sending : SendingOn) : Type 0
  where
    pub cut : AreCutOn limit handle ons sending.batches.items sending.all_fit
    pub count : sending.transfers ≡ transfers_in sending.batches.items

-- They go on by a session that has room for so many transfers more, and there is room among what is handed out, and for
-- so many frames beside them.
pub record HasRoomToGoOn (ready : FlowReady) (others : ℕ) (s : Linked) (len capacity : ℕ) : Type 0 where
  pub room : transfers_in ready.sending.batches.items ≤ s.session.outgoing.room
  pub spare : len + (frames_in s.session.outgoing.queues + s.session.outgoing.room) + others ≤ capacity
  pub place : HasPlaceToClose s ready.closing

-- The link with this own handle has credit for them, and each begins a delivery with a tag.
pub record MayGoOn (ready : FlowReady) (s : Linked) : Type 0 where
  pub link : End
  pub there : end_at s ready.closing.handle ≡ Some link
  pub credit : HasCreditFor (length ready.sending.batches.items) link
  pub tagged : All HaveTags ready.sending.batches.items
