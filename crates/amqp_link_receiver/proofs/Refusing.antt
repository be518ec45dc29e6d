-- A transfer that is refused changes the counts of a receiving end alone.
use Rattle.std.proofs.Common.{◌≡◌, ◌==◌, ℕ, Bool, true, false, List, Option, Some, None, Ok, Err, refl}
use Rattle.std.specs.Prelude.{Result, if◌then◌else◌}
use Rattle.amqp_session_performatives.specs.declared.transfer.Transfer.{Transfer}
use Rattle.amqp_link_types.specs.declared.refusals.ReceiverTransferError.{ReceiverTransferError}
use Rattle.amqp_link_types.specs.declared.refusals.ReceiverTransferError.TheVariants as refused
use Rattle.amqp_link_receiver.specs.declared.head.Head.{Head}
use Rattle.amqp_link_receiver.specs.declared.head.Start.{Start}
use Rattle.amqp_link_receiver.specs.declared.attachment.Attachment.{Attachment}
use Rattle.amqp_link_receiver.specs.declared.answer.Registering.{Registering}
use Rattle.amqp_link_receiver.specs.declared.answer.Registering.TheVariants.{Unchanged, Settled}
use Rattle.amqp_link_receiver.specs.declared.answer.Told.{Told}
use Rattle.amqp_link_receiver.specs.declared.answer.Told.TheVariants as told
use Rattle.amqp_link_receiver.specs.Deliveries.{Delivery, agrees, delivery_of, start_of, with_last, with_part}
use Rattle.amqp_link_receiver.specs.Reading.{head_of}
use Rattle.amqp_link_receiver.specs.Receiving.{Outcome, Receiving, aborted, completed, completion, dropped}
use Rattle.amqp_link_receiver.specs.Receiving.{first_aborted, kept_on, message_of, received, received_head, recounted}
use Rattle.amqp_link_receiver.specs.Receiving.{refusal, spent}

-- where it is refused, the end is as before, with the counts of before
abbrev Back : Receiving → Outcome → Type 0
Back s o =
    (error : ReceiverTransferError) → (o.0).told ≡ told.Refused error
    → recounted o.1 s.flow.delivery_count s.flow.link_credit ≡ s

stays : (s : Receiving) (e : ReceiverTransferError) → Back s (refusal e s)
stays s e error is = refl

spends : (s : Receiving) (e : ReceiverTransferError) → Back s (refusal e (spent s))
spends s e error is = refl

drops : (s : Receiving) (registering : Registering) (tag : List ℕ) → Back s (dropped registering s tag)
drops s registering tag error is = let clash : told.Dropped ≡ told.Refused error = is in absurd cc

no-message : (b : Bool) (d : Delivery) (error : ReceiverTransferError)
    → (if b then told.Joined d.delivery_id d.delivery_tag else told.Message (message_of d)) ≡ told.Refused error → ⊥
no-message true d error is = cc
no-message false d error is = cc

module _ (attachment : Attachment) (s : Receiving) where
  first : (r : Result Start ReceiverTransferError) → Back s (first_aborted attachment s r)
  first (Err e) error is = refl
  first (Ok t) error is = let clash : told.Dropped ≡ told.Refused error = is in absurd cc

  gives-up : (b : Bool) (registering : Registering) (tag : List ℕ)
      → Back s (if b then dropped registering s tag else refusal refused.InconsistentFieldInMultiFrameDelivery s)
  gives-up true registering tag = drops s registering tag
  gives-up false registering tag = stays s refused.InconsistentFieldInMultiFrameDelivery

  aborts : (held : Option Delivery) (h : Head) → Back s (aborted attachment s held h)
  aborts None h = first (start_of h)
  aborts (Some d) h = gives-up (agrees d h) (if d.settled then Unchanged else Settled d.delivery_id) d.delivery_tag

  keeps : (r : Result Delivery ReceiverTransferError) → Back s (kept_on attachment s r)
  keeps (Err e) error is = refl
  keeps (Ok d) error is = let clash : told.Nothing ≡ told.Refused error = is in absurd cc

  completes : (r : Result Delivery ReceiverTransferError) → Back s (completed attachment (spent s) r)
  completes (Err e) error is = refl
  completes (Ok d) error is = absurd (no-message d.joins d error is)

  by : (a m z : Bool) (h : Head) (part last : Result Delivery ReceiverTransferError)
      → Back s
      (if a then aborted attachment s s.held h
      else (if m then kept_on attachment s part
      else (if z then refusal refused.TransferLimitExceeded s else completed attachment (spent s) last)))
  by true m z h part last = aborts s.held h
  by false true z h part last = keeps part
  by false false true h part last = stays s refused.TransferLimitExceeded
  by false false false h part last = completes last

  pub counts-alone : (t : Transfer) (payload : List ℕ) → Back s (received attachment s t payload)
  counts-alone t payload =
      let h = head_of t in
      by h.aborted h.more (s.flow.link_credit == 0) h
      (with_part attachment payload (delivery_of s.held s.unsettled h))
      (with_last attachment payload (delivery_of s.held s.unsettled h))
