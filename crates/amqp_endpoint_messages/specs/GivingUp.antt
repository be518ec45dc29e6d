-- How a link gives deliveries up once it is attached at both ends, and is closed where it can't: part 2, 2.6.6, 2.6.12,
-- 2.6.13, 2.7.5; part 3, 3.4.
use Rattle.std.specs.Prelude.{◌≡◌, ◌⊎◌, ℕ, ◌-◌, ◌^◌, List, [], ◌∷◌, ◌++◌, All, Bool, true, false, Option, Some, None}
use Rattle.std.specs.Prelude.{map, Result, Ok, Err}
use Rattle.std.specs.Prelude.{IsSome, if◌then◌else◌}
use Rattle.amqp_session_types.specs.declared.error.Error.{Error}
use Rattle.amqp_session_types.specs.declared.handles.OutputHandle.{OutputHandle}
use Rattle.amqp_session_performatives.specs.declared.session_frame.SessionFrame.{SessionFrame}
use Rattle.amqp_session_performatives.specs.declared.attach.Attach.{Attach}
use Rattle.amqp_session_performatives.specs.declared.session_frame.SessionFrameBody.TheVariants as body
use Rattle.amqp_session_performatives.specs.declared.transfer.Transfer.{Transfer}
use Rattle.amqp_session_outgoing.specs.History.{HasFreeNumbers}
use Rattle.amqp_session_core.specs.Batch.{Transfers, first_of}
use Rattle.amqp_session_core.specs.State.{link_at}
use Rattle.amqp_session_core.specs.Told.{TransfersSent}
use Rattle.amqp_link_base.specs.declared.exchange.AttachExchange.{AttachExchange}
use Rattle.amqp_link_sender.specs.Attaching.{abort_transfer}
use Rattle.amqp_link_unsettled.specs.declared.exchanging.Abort.{Abort}
use Rattle.amqp_endpoint_fitting.specs.Fits.{UnitFits}
use Rattle.amqp_endpoint_links.specs.declared.numbered.Numbered.{Numbered}
use Rattle.amqp_link.specs.GoingOn.{aborts_of}
use Rattle.amqp_link.specs.Preparing.{attach_planned}
use Rattle.amqp_link.specs.declared.end.End.{End}
use Rattle.amqp_link.specs.declared.preparing.PreparedAttach.{PreparedAttach}
use Rattle.amqp_link_types.specs.declared.link_error.LinkError.{LinkError}
use Rattle.amqp_endpoint_model.specs.declared.error.EndpointError.{EndpointError}
use Rattle.amqp_endpoint_model.specs.declared.error.EndpointError.TheVariants.{FrameTooLarge, NumberInUse}
use Rattle.amqp_endpoint_model.specs.declared.event.Event.{Event}
use Rattle.amqp_endpoint_model.specs.declared.event.Event.TheVariants as event
use Rattle.amqp_endpoint_model.specs.State.{fits, frame_of}
use Rattle.amqp_endpoint_attached.specs.Detaching.{DetachGiven, is_there}
use Rattle.amqp_endpoint_attached.specs.Linked.{Linked, LinksIn, end_at, gives}
use Rattle.amqp_endpoint_messages.specs.All.{TellsFirst, first_told}
use Rattle.amqp_endpoint_messages.specs.Sending.{on_handle}

-- The transfer that gives a delivery up, on the own handle of its link.
abbrev pub abort_on : OutputHandle → Abort → Transfer
abort_on handle abort = on_handle handle (abort_transfer abort)

-- It is all that is said of its delivery, and carries no byte of a message.
abbrev pub batch_of : OutputHandle → Abort → Transfers
batch_of handle abort = first_of (abort_on handle abort) [] ∷ []

-- The peer takes it, whatever its channel and whatever number the delivery gets: the largest is as long as any (part 1,
-- 1.6.5; part 2, 2.4.1).
abbrev pub transfer_fits : ℕ → Transfer → Bool
transfer_fits limit transfer =
    fits limit
    (frame_of (record { channel = 0; body = body.Transfer (record transfer { delivery_id = Some (2 ^ 32 - 1) }) [] }))

abbrev pub abort_fits : ℕ → OutputHandle → Abort → Bool
abort_fits limit handle abort = transfer_fits limit (abort_on handle abort)

-- The deliveries before the first of which the peer takes no such frame.
abbrev pub fitting : ℕ → OutputHandle → List Abort → List Abort
fitting limit handle [] = []
fitting limit handle (abort ∷ others) =
    if abort_fits limit handle abort then abort ∷ fitting limit handle others else []

-- It takes one of each.
abbrev pub all_fit : ℕ → OutputHandle → List Abort → Bool
all_fit limit handle [] = true
all_fit limit handle (abort ∷ others) =
    if abort_fits limit handle abort then all_fit limit handle others else false

-- Whichever its channel, and whatever number its delivery gets, the transfer of each of these fits the peer's frames.
abbrev pub EachFits : ℕ → OutputHandle → List Abort → Type 0
EachFits limit handle aborts =
    (channel : ℕ) → All (λ abort. All (UnitFits channel limit handle.0) (batch_of handle abort)) aborts

-- A session takes the transfers of a delivery of a link, and hands out what the peer's window allows, or it doesn't, as
-- the delivery's number is that of an unsettled one, or of one that waits (part 2, 2.5.6, 2.8.6).
abbrev pub HandsOne : OutputHandle → Transfers → LinksIn → List SessionFrame → Bool → LinksIn → List SessionFrame
    → Type 0
HandsOne handle batch old out true new out_new = TransfersSent gives old out handle batch new out_new
HandsOne handle batch old out false new out_new =
    (HasFreeNumbers old.outgoing batch → ⊥) × (new ≡ old) × (out_new ≡ out)

-- It takes delivery after delivery, up to the first that it doesn't take: then it stops.
abbrev pub HandsEach : OutputHandle → List Transfers → LinksIn → List SessionFrame → Bool → LinksIn → List SessionFrame
    → Type 0
HandsEach handle [] old out stopped new out_new = (stopped ≡ false) × (new ≡ old) × (out_new ≡ out)
HandsEach handle (batch ∷ batches) old out stopped new out_new =
    ((mid : LinksIn) × (out_mid : List SessionFrame) × HandsOne handle batch old out true mid out_mid
    × HandsEach handle batches mid out_mid stopped new out_new)
    ⊎ (HandsOne handle batch old out false new out_new × (stopped ≡ true))

-- Why not all of them are given up, by whether the session stopped, and whether the peer takes a frame for each.
abbrev pub stuck_by : Bool → Bool → Option EndpointError
stuck_by true fit = Some NumberInUse
stuck_by false false = Some FrameTooLarge
stuck_by false true = None

-- A link gives these deliveries up, in their order, up to the first for which it can't: each by a transfer of its own
-- (part 2, 2.6.13).
pub record GivesUp (limit : ℕ) (handle : OutputHandle) (aborts : List Abort) (old : Linked) (out : List SessionFrame)
    (stuck : Option EndpointError) (new : Linked) (out_new : List SessionFrame) : Type 0 where
  pub stopped : Bool
  pub hands :
      HandsEach handle (map (batch_of handle) (fitting limit handle aborts)) old.session out stopped new.session out_new
  pub is : stuck ≡ stuck_by stopped (all_fit limit handle aborts)
  pub rest : new ≡ record old { session = new.session }
  pub fit : EachFits limit handle (fitting limit handle aborts)

-- A link is closed here: its own closing Detach says why, and is sent where the link is attached (part 2, 2.6.6,
-- 2.8.15).
abbrev pub ClosesIf : Bool → Option Error → Linked → OutputHandle → List SessionFrame → Linked → Type 0
ClosesIf true why old handle frames new = DetachGiven old handle true why [] new frames
ClosesIf false why old handle frames new = (new ≡ old) × (frames ≡ [])

abbrev pub Closes : Option Error → OutputHandle → List SessionFrame → Linked → Linked → Type 0
Closes why handle frames old new = ClosesIf (is_there (end_at old handle)) why old handle frames new

-- That the link with this number is attached at both ends is told, with what the two Attach leave to be done.
abbrev pub attached_told : ℕ → AttachExchange → List Event
attached_told link exchange = event.Attached (record { link = link; exchange = exchange }) ∷ []

-- That it is closed here is told, with why.
abbrev pub refused_told : ℕ → ℕ → EndpointError → List Event
refused_told session link error =
    event.Refused (record { session = session; link = Some link; error = error }) ∷ []

-- And behind that the outcomes of so many of the messages that end by it, if as many do.
pub record ClosedFor (session : ℕ) (error : EndpointError) (count : ℕ) (handle : OutputHandle) (why : Error)
    (frames : List SessionFrame) (events : List Event) (old new : Linked) : Type 0 where
  pub link : Numbered End
  pub there : link_at old.session handle.0 ≡ Some link
  pub mid : Linked
  pub closes : Closes (Some why) handle frames old mid
  pub tells : TellsFirst count handle (link_at mid.session handle.0) mid new
  pub told : events ≡ refused_told session link.number error
      ++ first_told count None (link_at mid.session handle.0)

-- These frames are handed out behind others, and these events told.
pub record DoesClosedFor (session : ℕ) (error : EndpointError) (count : ℕ) (handle : OutputHandle) (why : Error)
    (old : Linked) (out : List SessionFrame) (told : List Event) (new : Linked) (out_new : List SessionFrame)
    (told_new : List Event) : Type 0 where
  pub frames : List SessionFrame
  pub events : List Event
  pub does : ClosedFor session error count handle why frames events old new
  pub queued : out_new ≡ out ++ frames
  pub are_told : told_new ≡ told ++ events

-- One transfer that begins a delivery with a tag, with nothing behind it.
pub record IsBare (batch : Transfers) : Type 0 where
  pub transfer : Transfer
  pub tagged : IsSome transfer.delivery_tag
  pub alone : batch ≡ first_of transfer [] ∷ []

-- The deliveries that a link gives up by the peer's Attach: none where it refuses that.
abbrev pub given_up_by : Result PreparedAttach LinkError → List Abort
given_up_by (Ok prepared) = aborts_of prepared
given_up_by (Err error) = []

abbrev pub planned_at : Option End → Attach → List Abort
planned_at None attach = []
planned_at (Some link) attach = given_up_by (attach_planned link attach)
