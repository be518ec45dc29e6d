-- A message is sent as one transfer at once, beside the general way, which cuts it: part 2, 2.6.12 and 2.7.5.
use Rattle.std.specs.Prelude.{◌≡◌, ℕ, ◌+◌, ◌≤◌, Bool, true, false, List, [], ◌∷◌, Option, Some, None, length}
use Rattle.amqp_session_types.specs.declared.handles.OutputHandle.{OutputHandle}
use Rattle.amqp_session_performatives.specs.declared.session_frame.SessionFrame.{SessionFrame}
use Rattle.amqp_session_core.specs.Batch.{first_of}
use Rattle.amqp_session_core.specs.SendsAtOnce.{whole_transfer}
use Rattle.amqp_session_core.specs.Steps.{Step, Changes}
use Rattle.amqp_link_sender.specs.declared.payloads.PreparedBatch.{PreparedBatch}
use Rattle.amqp_link_sender.specs.declared.sending_at_once.ReadyAtOnce.{ReadyAtOnce}
use Rattle.amqp_link_sender.specs.Sending.{Sending}
use Rattle.amqp_link_sender.specs.Sends.{entry_unless, refusal, with_room}
use Rattle.amqp_link.specs.declared.end.End.{End}
use Rattle.amqp_link.specs.declared.end.End.TheVariants.{Sender}
use Rattle.amqp_endpoint_attached.specs.Linked.{Linked, LinksIn, gives}
use Rattle.amqp_endpoint_messages.specs.Sending.{HandsOver, Message, MessageSent, goes, sending}

-- a frame of at most so many bytes holds the message, whatever its transfer says
pub record FitsAnyFrame (limit : ℕ) (m : Message) : Type 0 where
  pub payload : length m.payload + 128 ≤ limit
  pub tag : length m.tag ≤ 32

-- an end that sends, to which nothing speaks against the message, makes room for it
pub record ReadiesEnd (old : End) (m : Message) (ready : ReadyAtOnce) (new : End) : Type 0 where
  pub before : Sending
  pub sends : old ≡ Sender before
  pub allowed : refusal before m.tag (length m.payload) ≡ None
  pub went : ready.settled ≡ goes before m
  pub was : ready.room ≡ before.messages.room
  pub room : new ≡ Sender (with_room before)

-- a link of a session does
pub record ReadiesIn (old : LinksIn) (handle : OutputHandle) (m : Message) (ready : ReadyAtOnce) (new : LinksIn)
    : Type 0 where
  pub number : ℕ
  pub before : Sending
  pub allowed : refusal before m.tag (length m.payload) ≡ None
  pub went : ready.settled ≡ goes before m
  pub was : ready.room ≡ before.messages.room
  pub changed : Step gives old (Changes handle.0 (sending number before) (sending number (with_room before))) new

-- the one transfer of a message, and the message as it is open from then on
abbrev pub whole : OutputHandle → Message → Bool → PreparedBatch
whole handle m settled =
    record {
      batch = first_of (whole_transfer handle m.tag m.format settled) m.payload ∷ [];
      entry = entry_unless settled m.tag m.format m.payload;
    }

-- the session takes it, and its link has sent the message, or nothing changes
abbrev pub HandsAtOnce : LinksIn → OutputHandle → Message → Bool → Bool → List SessionFrame → LinksIn
    → List SessionFrame → Type 0
HandsAtOnce old handle m settled false out new out_new = (new ≡ old) × (out_new ≡ out)
HandsAtOnce old handle m settled true out new out_new =
    HandsOver old handle (whole handle m settled) settled out new out_new

-- the message is sent, settled or not, or nothing changes
abbrev pub SendsAtOnce : Linked → ℕ → OutputHandle → Message → Option Bool → List SessionFrame → Linked
    → List SessionFrame → Type 0
SendsAtOnce old limit handle m None out new out_new = (new ≡ old) × (out_new ≡ out)
SendsAtOnce old limit handle m (Some settled) out new out_new = MessageSent old limit handle m settled out new out_new
