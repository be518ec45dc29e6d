-- What a receiving end would hand out for a transfer.
use Rattle.std.proofs.Common.{◌≡◌, ◌==◌, ℕ, Bool, true, false, List, [], Option, Some, None, Ok, Err}
use Rattle.std.proofs.Common.{refl, sym, ap, subst, ◌∙◌}
use Rattle.std.specs.Prelude.{Result, if◌then◌else◌, not}
use Rattle.amqp_session_performatives.specs.declared.transfer.Transfer.{Transfer}
use Rattle.amqp_link_types.specs.declared.refusals.ReceiverTransferError.{ReceiverTransferError}
use Rattle.amqp_link_types.specs.declared.refusals.ReceiverTransferError.TheVariants as refused
use Rattle.amqp_link_receiver.specs.declared.head.Head.{Head}
use Rattle.amqp_link_receiver.specs.declared.head.Start.{Start}
use Rattle.amqp_link_receiver.specs.declared.attachment.Attachment.{Attachment}
use Rattle.amqp_link_receiver.specs.declared.answer.Registering.{Registering}
use Rattle.amqp_link_receiver.specs.declared.answer.Registering.TheVariants.{Unchanged, Settled}
use Rattle.amqp_link_receiver.specs.declared.answer.Told.TheVariants as told
use Rattle.amqp_link_receiver.specs.Deliveries.{Delivery, agrees, delivery_of, start_of, with_last, with_part}
use Rattle.amqp_link_receiver.specs.Foreseen.{is_handed, is_message}
use Rattle.amqp_link_receiver.specs.Reading.{head_of}
use Rattle.amqp_link_receiver.specs.Receiving.{Outcome, Receiving, aborted, completed, dropped, first_aborted, kept_on}
use Rattle.amqp_link_receiver.specs.Receiving.{message_of, received, refusal, spent}

abbrev Hands : Outcome → Bool → Type 0
Hands o handed = handed ≡ is_message (o.0).told

-- that of a delivery of which none was handed out before
of-joins : (b : Bool) (d : Delivery)
    → not b ≡ is_message (if b then told.Joined d.delivery_id d.delivery_tag else told.Message (message_of d))
of-joins true d = refl
of-joins false d = refl

module _ (attachment : Attachment) (s : Receiving) where
  first : (r : Result Start ReceiverTransferError) → Hands (first_aborted attachment s r) false
  first (Err e) = refl
  first (Ok t) = refl

  gives-up : (b : Bool) (registering : Registering) (tag : List ℕ)
      → Hands (if b then dropped registering s tag else refusal refused.InconsistentFieldInMultiFrameDelivery s) false
  gives-up true registering tag = refl
  gives-up false registering tag = refl

  aborts : (held : Option Delivery) (h : Head) → Hands (aborted attachment s held h) false
  aborts None h = first (start_of h)
  aborts (Some d) h = gives-up (agrees d h) (if d.settled then Unchanged else Settled d.delivery_id) d.delivery_tag

  keeps : (r : Result Delivery ReceiverTransferError) → Hands (kept_on attachment s r) false
  keeps (Err e) = refl
  keeps (Ok d) = refl

  lasts : (r : Result Delivery ReceiverTransferError) → Hands (completed attachment (spent s) r) (is_handed r)
  lasts (Err e) = refl
  lasts (Ok d) = of-joins d.joins d

  by : (a m z : Bool) (h : Head) (part last : Result Delivery ReceiverTransferError)
      → Hands
      (if a then aborted attachment s s.held h
      else (if m then kept_on attachment s part
      else (if z then refusal refused.TransferLimitExceeded s else completed attachment (spent s) last)))
      (if a then false else (if m then false else (if z then false else is_handed last)))
  by true m z h part last = aborts s.held h
  by false true z h part last = keeps part
  by false false true h part last = refl
  by false false false h part last = lasts last

  module _ (t : Transfer) (payload : List ℕ) where
    abbrev Foresees : Bool → Type 0
    Foresees handed = Hands (received attachment s t payload) handed

    all : Foresees
        (if t.aborted then false else (if t.more then false else (if s.flow.link_credit == 0 then false
        else is_handed (with_last attachment payload (delivery_of s.held s.unsettled (head_of t))))))
    all =
        let h = head_of t in
        by h.aborted h.more (s.flow.link_credit == 0) h
        (with_part attachment payload (delivery_of s.held s.unsettled h))
        (with_last attachment payload (delivery_of s.held s.unsettled h))

    so : (a m z l : Bool) → t.aborted ≡ a → t.more ≡ m → (s.flow.link_credit == 0) ≡ z
        → l ≡ is_handed (with_last attachment payload (delivery_of s.held s.unsettled (head_of t)))
        → Foresees (if a then false else (if m then false else (if z then false else l)))
    so a m z l is-a is-m is-z is-l =
        let P : Bool → Type 0 = λ b.
        Foresees (if b then false else (if t.more then false else (if s.flow.link_credit == 0 then false
        else is_handed (with_last attachment payload (delivery_of s.held s.unsettled (head_of t)))))) in
        let Q : Bool → Type 0 = λ b.
        Foresees (if a then false else (if b then false else (if s.flow.link_credit == 0 then false
        else is_handed (with_last attachment payload (delivery_of s.held s.unsettled (head_of t)))))) in
        let R : Bool → Type 0 = λ b.
        Foresees (if a then false else (if m then false else (if b then false
        else is_handed (with_last attachment payload (delivery_of s.held s.unsettled (head_of t)))))) in
        let S : Bool → Type 0 = λ b.
        Foresees (if a then false else (if m then false else (if z then false else b))) in
        subst S (sym is-l) (subst R is-z (subst Q is-m (subst P is-a all)))

    pub foresees-aborted : t.aborted ≡ true → Foresees false
    foresees-aborted a = so true t.more (s.flow.link_credit == 0) _ a refl refl refl

    pub foresees-more : t.aborted ≡ false → t.more ≡ true → Foresees false
    foresees-more a m = so false true (s.flow.link_credit == 0) _ a m refl refl

    pub foresees-uncredited : t.aborted ≡ false → t.more ≡ false → (s.flow.link_credit == 0) ≡ true → Foresees false
    foresees-uncredited a m z = so false false true _ a m z refl

    pub foresees-held : (held : Delivery) (handed : Bool) → t.aborted ≡ false → t.more ≡ false
        → (s.flow.link_credit == 0) ≡ false → s.held ≡ Some held
        → handed ≡ is_handed (with_last attachment payload (delivery_of (Some held) [] (head_of t)))
        → Foresees handed
    foresees-held held handed a m z is l =
        let there : handed
        ≡ is_handed (with_last attachment payload (delivery_of (Some held) s.unsettled (head_of t))) = l in
        so false false false handed a m z
        (there ∙ ap (λ (o : Option Delivery).
        is_handed (with_last attachment payload (delivery_of o s.unsettled (head_of t)))) (sym is))

    pub foresees-whole : (handed : Bool) → t.aborted ≡ false → t.more ≡ false
        → (s.flow.link_credit == 0) ≡ false → s.held ≡ None
        → handed ≡ is_handed (with_last attachment payload (delivery_of None s.unsettled (head_of t)))
        → Foresees handed
    foresees-whole handed a m z is l =
        so false false false handed a m z
        (l ∙ ap (λ (o : Option Delivery).
        is_handed (with_last attachment payload (delivery_of o s.unsettled (head_of t)))) (sym is))

pub ruleset foreseen = (foresees-aborted, foresees-more, foresees-uncredited, foresees-held, foresees-whole)
