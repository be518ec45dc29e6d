-- Worked rows of a receiving end, computed from the definitions.
use Rattle.std.proofs.Common.{◌≡◌, ℕ, List, [], ◌∷◌, ◌++◌, Bool, true, false, Option, None, Some, refl}
use Rattle.std.specs.Prelude.{Result, Ok, Err}
use Rattle.amqp_session_types.specs.declared.modes.ReceiverSettleMode.{ReceiverSettleMode}
use Rattle.amqp_session_types.specs.declared.modes.ReceiverSettleMode.TheVariants.{First, Second}
use Rattle.amqp_link_types.specs.declared.refusals.ReceiverTransferError.TheVariants as refused
use Rattle.amqp_link_base.specs.declared.inner.LinkFlowStateInner.{LinkFlowStateInner}
use Rattle.amqp_link_receiver.specs.declared.head.Head.{Head}
use Rattle.amqp_link_receiver.specs.declared.attachment.Attachment.{Attachment}
use Rattle.amqp_link_receiver.specs.declared.entry.Entry.TheVariants.{Half, Whole}
use Rattle.amqp_link_receiver.specs.declared.answer.Registering.TheVariants.{Unchanged, Unsettled, Settled}
use Rattle.amqp_link_receiver.specs.declared.answer.Told.TheVariants as told
use Rattle.amqp_link_receiver.specs.Deliveries.{Delivery, Entries}
use Rattle.amqp_link_receiver.specs.Receiving.{Receiving, Outcome, parted, received_head, refusal}

abbrev credit : ℕ → LinkFlowStateInner
credit n = record { initial_delivery_count = 0; delivery_count = 0; link_credit = n; available = 0; drain = false; properties = None }

abbrev first : Attachment
first = record { count = 0; max_message_size = 4; rcv_settle_mode = First }

-- a transfer of delivery 7, tag 1, by whether it is settled and whether more follow
abbrev part : Bool → Bool → Head
part settled more =
    record {
      delivery_id = Some 7;
      delivery_tag = Some (1 ∷ []);
      message_format = Some 0;
      settled = settled;
      more = more;
      rcv_settle_mode = None;
      place = None;
      resume = false;
      aborted = false;
    }

abbrev empty : ℕ → Receiving
empty n = record { flow = credit n; held = None; unsettled = [] }

-- a message of one transfer, settled: it is handed out, uses one credit, and leaves no entry
whole-settled : (received_head first (empty 2) (part true false) (2 ∷ 3 ∷ [])).0 ≡
    record { registering = Unchanged; told = told.Message (record { delivery_id = 7; delivery_tag = 1 ∷ []; message_format = Some 0; rcv_settle_mode = None; settled = true; payload = 2 ∷ 3 ∷ [] }) }
whole-settled = refl

credit-used : ((received_head first (empty 2) (part true false) (2 ∷ 3 ∷ [])).1).flow.link_credit ≡ 1
credit-used = refl

-- without credit a last transfer is refused, and nothing changes
no-credit : received_head first (empty 0) (part true false) (2 ∷ []) ≡ refusal refused.TransferLimitExceeded (empty 0)
no-credit = refl

-- a transfer that isn't the last needs none
part-unsettled : ((received_head first (empty 0) (part false true) (2 ∷ [])).0).registering ≡ Unsettled 7 (1 ∷ [])
part-unsettled = refl

part-entered : ((received_head first (empty 0) (part false true) (2 ∷ [])).1).unsettled ≡ ((1 ∷ []), Half []) ∷ []
part-entered = refl

-- five bytes are more than the four that are taken: refused, and the credit is used
too-large : received_head first (empty 2) (part true false) (1 ∷ 2 ∷ 3 ∷ 4 ∷ 5 ∷ []) ≡ refusal refused.MessageSizeExceeded (record (empty 2) { flow = record (credit 1) { delivery_count = 1 } })
too-large = refl

-- what has come of an unsettled delivery outlives its attachment, and what has come of a settled one doesn't
half-unsettled : (parted (received_head first (empty 0) (part false true) (2 ∷ [])).1).unsettled ≡ ((1 ∷ []), Half (2 ∷ [])) ∷ []
half-unsettled = refl

half-settled : parted (received_head first (empty 0) (part true true) (2 ∷ [])).1 ≡ empty 0
half-settled = refl
