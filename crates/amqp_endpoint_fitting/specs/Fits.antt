-- What waits in a session fits the peer's limit, whatever numbers are written into it as it leaves (part 2, 2.4.1,
-- 2.5.6, 2.7.1).
use Rattle.std.specs.Prelude.{◌≡◌, ℕ, List, All, true, Option, None}
use Rattle.amqp_session_performatives.specs.declared.session_frame.SessionFrame.{SessionFrame}
use Rattle.amqp_session_performatives.specs.declared.session_frame.SessionFrameBody.TheVariants as body
use Rattle.amqp_session_outgoing.specs.declared.frames.Outbound.{Outbound}
use Rattle.amqp_session_outgoing.specs.Queues.{Queues}
use Rattle.amqp_session_core.specs.declared.batch.BehindFrame.{BehindFrame}
use Rattle.amqp_session_core.specs.declared.batch.BehindFrame.TheVariants as behind
use Rattle.amqp_session_core.specs.declared.batch.TransferFrame.{TransferFrame}
use Rattle.amqp_endpoint_model.specs.State.{fits, frame_of}
use Rattle.amqp_endpoint_fitting.specs.Plain.{MayBeUint}

-- a frame fits the limit
abbrev pub FrameFits : ℕ → SessionFrame → Type 0
FrameFits limit frame = fits limit (frame_of frame) ≡ true

-- a transfer as it leaves on a channel: with its link's handle, and the number of the delivery where it says one (part
-- 2, 2.7.5)
abbrev pub numbered : ℕ → ℕ → Option ℕ → TransferFrame → SessionFrame
numbered channel handle number carried =
    record {
      channel = channel;
      body =
          body.Transfer
          (record carried.performative { handle = record { 0 = handle }; delivery_id = number }) carried.payload;
    }

-- a transfer fits whatever number its delivery gets
pub record TransferFits (channel limit handle : ℕ) (carried : TransferFrame) : Type 0 where
  pub each : (number : Option ℕ) → MayBeUint number → FrameFits limit (numbered channel handle number carried)

-- a Flow that waits has no properties, so that it fits whatever numbers it says (part 2, 2.7.4); a Detach fits as it is
abbrev pub BehindFits : ℕ → ℕ → BehindFrame → Type 0
BehindFits channel limit (behind.Flow link) = link.properties ≡ None
BehindFits channel limit (behind.Detach detach) =
    FrameFits limit (record { channel = channel; body = body.Detach detach })

-- a transfer of the link with this handle, and what leaves right behind it
pub record UnitFits (channel limit handle : ℕ) (unit : Outbound TransferFrame BehindFrame) : Type 0 where
  pub transfer : TransferFits channel limit handle unit.transfer
  pub behind : All (BehindFits channel limit) unit.behind

-- what waits of a link
abbrev pub QueueFits : ℕ → ℕ → ℕ × List (Outbound TransferFrame BehindFrame) → Type 0
QueueFits channel limit queue = All (UnitFits channel limit queue.0) queue.1

-- all that waits in a session on this channel
pub record QueuesFit (channel limit : ℕ) (queues : Queues TransferFrame BehindFrame) : Type 0 where
  pub each : All (QueueFits channel limit) queues
