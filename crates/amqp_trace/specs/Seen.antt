-- Frames as they are shown.
use Rattle.std.specs.Prelude.{◌≡◌, ℕ, List, Option, Some, None}
use Rattle.amqp_session_frames.specs.Text.{FrameText, NotRead, performative_of, performative_text}
use Rattle.amqp_session_frames.specs.declared.error.Error.{Error}
use Rattle.amqp_session_frames.specs.declared.error.Error.TheVariants.{DecodeError, NotImplemented, TooLarge, Memory}
use Rattle.amqp_session_frames.specs.declared.frame.Frame.{Frame}
use Rattle.amqp_session_frames.specs.declared.frame.FrameBody.{FrameBody}
use Rattle.amqp_session_frames.specs.declared.frame.FrameBody.TheVariants.{Transfer, Begin, End, Attach, Detach}
use Rattle.amqp_session_performatives.specs.declared.transfer.Transfer.{Transfer as Transferring}
use Rattle.amqp_trace.specs.declared.deliveries.Effect.{Effect}
use Rattle.amqp_trace.specs.declared.deliveries.Effect.TheVariants.{Nothing, BreaksSession, BreaksLink, Carries}
use Rattle.amqp_trace.specs.declared.deliveries.Part.{Part}
use Rattle.amqp_trace.specs.declared.frames.SeenFrame.{SeenFrame}

-- the bytes that a transfer carries (part 2, 2.7.5)
abbrev pub payload_of : FrameBody → Option (List ℕ)
payload_of (Transfer t payload) = Some payload
payload_of body = None

-- what a transfer says of the part of a delivery that it carries (part 2, 2.7.5)
abbrev pub part_of : Transferring → Part
part_of t = record { handle = t.handle; delivery_id = t.delivery_id; more = t.more; aborted = t.aborted }

-- What a frame does to the deliveries of its channel that are under way (part 2, 2.6.14): a transfer carries a part of
-- one, and none goes on behind a Begin or an End of its session, or behind an Attach or a Detach of its link.
abbrev pub effect_of : FrameBody → Effect
effect_of (Transfer t payload) = Carries (part_of t)
effect_of (Begin b) = BreaksSession
effect_of (End e) = BreaksSession
effect_of (Attach a) = BreaksLink a.handle
effect_of (Detach d) = BreaksLink d.handle
effect_of body = Nothing

-- a frame as it is shown: its channel, what its performative is written as, a transfer's payload, and what it does to
-- deliveries
pub record Shows (frame : Frame) (seen : SeenFrame) : Type 0 where
  pub channel_is : seen.channel ≡ frame.channel
  pub performative_is : performative_text (performative_of frame.body) ≡ Some seen.performative.items
  pub payload_is : seen.payload ≡ payload_of frame.body
  pub effect_is : seen.effect ≡ effect_of frame.body

-- the bytes are a frame, which is shown so
pub record IsSeen (bytes : List ℕ) (seen : SeenFrame) : Type 0 where
  pub frame : Frame
  pub text : FrameText bytes frame
  pub shown : Shows frame seen

-- a text can't be written, or there is no memory
abbrev pub NotWritten : Option (List ℕ) → Error → Type 0
NotWritten text TooLarge = text ≡ None
NotWritten text Memory = Unit {0}
NotWritten text e = ⊥

-- the bytes are a frame whose performative can't be written
pub record IsUnwritten (bytes : List ℕ) : Type 0 where
  pub frame : Frame
  pub text : FrameText bytes frame
  pub unwritten : performative_text (performative_of frame.body) ≡ None

-- why no frame is shown
abbrev pub NotSeen : List ℕ → Error → Type 0
NotSeen bytes DecodeError = NotRead bytes DecodeError
NotSeen bytes NotImplemented = NotRead bytes NotImplemented
NotSeen bytes TooLarge = IsUnwritten bytes
NotSeen bytes Memory = NotRead bytes Memory
