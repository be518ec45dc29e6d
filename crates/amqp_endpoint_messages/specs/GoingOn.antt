-- What a link does once it is attached at both ends: it tells the outcomes that the peer's list decides, gives deliveries
-- up, takes what was kept of a Flow, and sends its open messages on. Part 2, 2.6.6, 2.6.7, 2.6.12, 2.6.13, 2.7.4, 2.7.5.
use Rattle.std.specs.Prelude.{◌≡◌, ◌+◌, ◌≤◌, ℕ, List, [], ◌++◌, All, Option, Some, None, Result, Ok, length}
use Rattle.amqp_session_types.specs.declared.error.Error.{Error}
use Rattle.amqp_session_types.specs.declared.handles.OutputHandle.{OutputHandle}
use Rattle.amqp_session_performatives.specs.declared.attach.Attach.{Attach}
use Rattle.amqp_session_performatives.specs.declared.link_flow.LinkFlow.{LinkFlow}
use Rattle.amqp_session_performatives.specs.declared.session_frame.SessionFrame.{SessionFrame}
use Rattle.amqp_session_outgoing.specs.Frames.{HaveTags}
use Rattle.amqp_session_outgoing.specs.Queues.{frames_in, room_behind}
use Rattle.amqp_session_core.specs.State.{link_at}
use Rattle.amqp_link_sender.specs.declared.sending_on.PreparedSendOn.{PreparedSendOn}
use Rattle.amqp_link_types.specs.declared.link_error.LinkError.{LinkError}
use Rattle.amqp_link_unsettled.specs.declared.exchanging.Abort.{Abort}
use Rattle.amqp_link.specs.Ends.{flowed}
use Rattle.amqp_link.specs.GoingOn.{HasCreditFor, sends_on_behind}
use Rattle.amqp_link.specs.Preparing.{attach_planned}
use Rattle.amqp_link.specs.declared.end.End.{End}
use Rattle.amqp_link.specs.declared.preparing.PreparedAttach.{PreparedAttach}
use Rattle.amqp_endpoint_model.specs.declared.error.EndpointError.{EndpointError}
use Rattle.amqp_endpoint_model.specs.declared.event.Event.{Event}
use Rattle.amqp_endpoint_attached.specs.Kept.{TakesKept}
use Rattle.amqp_endpoint_attached.specs.Linked.{Linked, end_at}
use Rattle.amqp_endpoint_messages.specs.All.{TellsFirst, first_told}
use Rattle.amqp_endpoint_messages.specs.GivingUp.{ClosedFor, GivesUp}
use Rattle.amqp_endpoint_messages.specs.MadeReady.{HasPlaceToClose, IsMadeReady}
use Rattle.amqp_endpoint_messages.specs.SendingOn.{AreReadyOn, CreditedAt, transfers_in}
use Rattle.amqp_endpoint_messages.specs.declared.giving_up.Closing.{Closing}
use Rattle.amqp_endpoint_messages.specs.declared.going_on.AttachReady.{AttachReady}
use Rattle.amqp_endpoint_messages.specs.declared.going_on.OnReady.{OnReady}
use Rattle.amqp_endpoint_messages.specs.declared.sending_on.FlowReady.{FlowReady}

-- It takes what was kept of a Flow for it, if one was, and replies to it where that wants it; behind that it sends on
-- what goes on with the credit that it has then, and is closed where it can't.
pub record CreditedBehind (limit session count : ℕ) (handle : OutputHandle) (why : Error) (kept : Option LinkFlow)
    (ons : List PreparedSendOn) (frames : List SessionFrame) (events : List Event) (old new : Linked) : Type 0 where
  pub reply : List SessionFrame
  pub mid : Linked
  pub takes : TakesKept handle kept old [] mid reply
  pub on : List SessionFrame
  pub credited : CreditedAt limit session count handle why ons on events mid new
  pub frames_are : frames ≡ reply ++ on

-- It does so, or it is closed where it couldn't give all deliveries up.
abbrev pub EndsIf : Option EndpointError → (limit session count : ℕ) → OutputHandle → Error → Option LinkFlow
    → List PreparedSendOn → List SessionFrame → List Event → Linked → Linked → Type 0
EndsIf None limit session count handle why kept ons frames events old new =
    CreditedBehind limit session count handle why kept ons frames events old new
EndsIf (Some error) limit session count handle why kept ons frames events old new =
    ClosedFor session error count handle why frames events old new

-- A link that took the peer's Attach, in the session with this number: it tells the outcomes of so many of its messages
-- that end by what the peer lists, if as many do; then it gives up the deliveries that are to be given up, and is
-- closed where it can't; else it takes what was kept of a Flow, and sends these messages on.
pub record AttachedAt (limit session count : ℕ) (handle : OutputHandle) (why : Error) (aborts : List Abort)
    (kept : Option LinkFlow) (ons : List PreparedSendOn) (frames : List SessionFrame) (events : List Event)
    (old new : Linked) : Type 0 where
  pub told : Linked
  pub tells : TellsFirst count handle (link_at old.session handle.0) old told
  pub stuck : Option EndpointError
  pub up : List SessionFrame
  pub given : Linked
  pub gives_up : GivesUp limit handle aborts told [] stuck given up
  pub down : List SessionFrame
  pub failed : List Event
  pub ends : EndsIf stuck limit session count handle why kept ons down failed given new
  pub frames_are : frames ≡ up ++ down
  pub events_are : events ≡ first_told count None (link_at old.session handle.0) ++ failed

-- These frames are handed out behind others, and these events told.
pub record DoesAttached (limit session count : ℕ) (handle : OutputHandle) (why : Error) (aborts : List Abort)
    (kept : Option LinkFlow) (ons : List PreparedSendOn) (old : Linked) (out : List SessionFrame) (told : List Event)
    (new : Linked) (out_new : List SessionFrame) (told_new : List Event) : Type 0 where
  pub frames : List SessionFrame
  pub events : List Event
  pub does : AttachedAt limit session count handle why aborts kept ons frames events old new
  pub queued : out_new ≡ out ++ frames
  pub are_told : told_new ≡ told ++ events

-- What goes on of a link that answers with its own this Attach of the peer's, by what was kept of a Flow.
abbrev pub on_planned : End → Result PreparedAttach LinkError → Option LinkFlow → List PreparedSendOn
on_planned link (Ok plan) (Some flow) = sends_on_behind link plan flow
on_planned link plan kept = []

abbrev pub on_answered : End → Attach → Option LinkFlow → List PreparedSendOn
on_answered link attach kept = on_planned link (attach_planned link attach) kept

-- The messages that go on, made ready, if any do.
abbrev pub AreOnReady : (limit : ℕ) → OutputHandle → List PreparedSendOn → Option OnReady → Type 0
AreOnReady limit handle ons None = ons ≡ []
AreOnReady limit handle ons (Some on) = AreReadyOn limit handle ons on.sending

-- The deliveries that the link gives up and the messages that it sends on, with what it is closed with.
pub record IsReadyWith (limit : ℕ) (aborts : List Abort) (ons : List PreparedSendOn) (with : Closing)
    (ready : AttachReady) : Type 0 where
  pub closing : ready.closing ≡ with
  pub giving : IsMadeReady limit with.handle aborts ready.giving
  pub on : AreOnReady limit with.handle ons ready.on

-- What is left of that once the link took a Flow: what it sends on, with what it is closed with then.
abbrev pub flow_ready : Closing → Option OnReady → Option FlowReady
flow_ready closing None = None
flow_ready closing (Some on) =
    Some (record { sending = on.sending; closing = record closing { place = on.place } })

-- How many transfers are sent on.
abbrev pub count_on : Option OnReady → ℕ
count_on None = 0
count_on (Some on) = transfers_in on.sending.batches.items

-- That many are counted.
abbrev pub IsCounted : Option OnReady → Type 0
IsCounted None = Unit {0}
IsCounted (Some on) = on.sending.transfers ≡ transfers_in on.sending.batches.items

-- Each of them begins a delivery with a tag.
abbrev pub AreTagged : Option OnReady → Type 0
AreTagged None = Unit {0}
AreTagged (Some on) = All HaveTags on.sending.batches.items

-- There is a place for the Detach of a link that sends messages on, also behind its reply to a Flow.
abbrev pub HasPlaceBehind : Linked → OutputHandle → Option OnReady → Type 0
HasPlaceBehind s handle None = Unit {0}
HasPlaceBehind s handle (Some on) =
    (2 ≤ on.place) × (room_behind handle.0 2 s.session.outgoing.queues ≤ on.place)

-- There is room for what is handed out: in the session, among what is handed out, where also a reply and a Detach find
-- room, and for both behind what waits.
pub record HasRoomToSend (ready : AttachReady) (s : Linked) (len capacity : ℕ) : Type 0 where
  pub room : length ready.giving.batches.items + count_on ready.on ≤ s.session.outgoing.room
  pub spare : len + (frames_in s.session.outgoing.queues + s.session.outgoing.room) + 2 ≤ capacity
  pub place : HasPlaceToClose s ready.closing
  pub behind : HasPlaceBehind s ready.closing.handle ready.on

-- A link takes what was kept of a Flow.
abbrev pub flowed_by : Option LinkFlow → End → End
flowed_by None link = link
flowed_by (Some flow) link = flowed link flow

-- The link has credit for what it sends on once it took what was kept of a Flow.
pub record HasCreditBehind (kept : Option LinkFlow) (handle : OutputHandle) (on : OnReady) (s : Linked) : Type 0 where
  pub link : End
  pub there : end_at s handle ≡ Some link
  pub credit : HasCreditFor (length on.sending.batches.items) (flowed_by kept link)

abbrev pub HasCreditThen : Option LinkFlow → OutputHandle → Option OnReady → Linked → Type 0
HasCreditThen kept handle None s = Unit {0}
HasCreditThen kept handle (Some on) s = HasCreditBehind kept handle on s
