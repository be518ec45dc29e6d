-- What becomes of a link whose attachment the peer ends (part 2, 2.6.4 to 2.6.6).
use Rattle.std.specs.Prelude.{◌≡◌, ◌≤◌, ℕ, Bool, true, false, Option, Some, None, if◌then◌else◌}
use Rattle.amqp_session_types.specs.declared.channels.OutgoingChannel.{OutgoingChannel}
use Rattle.amqp_session_types.specs.declared.error.Error.{Error}
use Rattle.amqp_session_types.specs.declared.handles.OutputHandle.{OutputHandle}
use Rattle.amqp_session_performatives.specs.declared.session_frame.SessionFrame.{SessionFrame}
use Rattle.amqp_session_performatives.specs.declared.session_frame.SessionFrameBody.TheVariants as body
use Rattle.amqp_session_performatives.specs.declared.detach.Detach.{Detach}
use Rattle.amqp_endpoint_model.specs.State.{fits, frame_of}
use Rattle.amqp_session_outgoing.specs.Queues.{room_behind}
use Rattle.amqp_endpoint_attached.specs.Detaching.{own_detach}
use Rattle.amqp_endpoint_attached.specs.Linked.{Linked}
use Rattle.amqp_endpoint_linking.specs.GivingBack.{IsAtRest, IsClosed}
use Rattle.amqp_endpoint_linking.specs.Linking.{Link, Links}

-- the frame of a Detach, on the session's channel
abbrev pub detach_frame : OutgoingChannel → Detach → SessionFrame
detach_frame channel detach = record { channel = channel.0; body = body.Detach detach }

-- the peer's error is repeated where the peer takes a frame that holds it (part 2, 2.4.1)
abbrev pub repeated : ℕ → OutgoingChannel → OutputHandle → Bool → Option Error → Option Error
repeated limit channel handle closed error =
    if fits limit (frame_of (detach_frame channel (own_detach handle closed error))) then error else None

-- where either end closed the link it is unknown from then on; else it is at rest, once nothing of it waits in its
-- session
abbrev pub IsLeft : Bool → Links → ℕ → Option Link → Links → Type 0
IsLeft true old number left new = IsClosed old number new
IsLeft false old number None new = new ≡ old
IsLeft false old number (Some link) new = IsAtRest old number link.link new

-- there is room for the answer to the peer's Detach behind what the link has waiting, and the peer takes it
pub record HasAnswer (limit : ℕ) (s : Linked) (handle : OutputHandle) (closed : Bool) (error : Option Error) (place : ℕ)
    : Type 0 where
  pub room : room_behind handle.0 1 s.session.outgoing.queues ≤ place
  pub fit : 512 ≤ limit
      → fits limit (frame_of (detach_frame s.session.fields.channel (own_detach handle closed error))) ≡ true

-- there is room for a Detach behind what the link has waiting, and it fits every peer's limit
pub record HasPlace (s : Linked) (handle : OutputHandle) (closed : Bool) (error : Option Error) (place : ℕ) : Type 0
  where
    pub room : room_behind handle.0 1 s.session.outgoing.queues ≤ place
    pub fit : fits 512 (frame_of (detach_frame s.session.fields.channel (own_detach handle closed error))) ≡ true
