-- A message that leaves as one transfer at once, beside the general way, which takes batches: part 2, 2.5.6 and 2.7.5.
use Rattle.std.specs.Prelude.{◌≡◌, ℕ, Bool, true, false, List, [], ◌∷◌, Option, Some, None}
use Rattle.amqp_session_types.specs.declared.handles.OutputHandle.{OutputHandle}
use Rattle.amqp_session_performatives.specs.declared.session_frame.SessionFrame.{SessionFrame}
use Rattle.amqp_session_performatives.specs.declared.transfer.Transfer.{Transfer}
use Rattle.amqp_session_core.specs.Batch.{first_of}
use Rattle.amqp_session_core.specs.Relay.{Relations}
use Rattle.amqp_session_core.specs.State.{State}
use Rattle.amqp_session_core.specs.Told.{TransfersSent}

-- what the one transfer of a message says, before its delivery has a number
abbrev pub whole_transfer : OutputHandle → List ℕ → ℕ → Bool → Transfer
whole_transfer handle tag format settled =
    record {
      handle = record { 0 = handle.0 };
      delivery_id = None;
      delivery_tag = Some tag;
      message_format = Some format;
      settled = Some settled;
      more = false;
      rcv_settle_mode = None;
      state = None;
      resume = false;
      aborted = false;
      batchable = false;
    }

-- the tag that is kept of its delivery, unless it goes settled
abbrev pub kept_tag : Bool → List ℕ → Option (List ℕ)
kept_tag true tag = None
kept_tag false tag = Some tag

module _ {R A T D : Type 0} (gives : Relations R A T D) where
  -- it is sent as a batch of it alone is, or nothing changes
  abbrev pub SendsAtOnce : State R → List SessionFrame → OutputHandle → Transfer → List ℕ → Bool → State R
      → List SessionFrame → Type 0
  SendsAtOnce old out handle t payload false new out_new = (new ≡ old) × (out_new ≡ out)
  SendsAtOnce old out handle t payload true new out_new =
      TransfersSent gives old out handle (first_of t payload ∷ []) new out_new
