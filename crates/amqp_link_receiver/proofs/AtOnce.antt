-- A transfer that brings a whole message, taken at once, is taken as any is.
use Rattle.std.proofs.Common.{◌≡◌, ℕ, ◌+◌, ◌<◌, List, [], ◌∷◌, ◌++◌, Bool, true, false, cond, Option, None, Some, ap, ◌∙◌, sym, refl, subst, inr, arith}
use Rattle.std.specs.Prelude.{◌==◌, ◌&&◌, not, nat_lt, Ok, Err, Result, if◌then◌else◌, unwrap_or, is_some, length}
use Rattle.std.specs.declared.alloc.AllocError.{AllocError}
use Rattle.std.specs.Map.{set_value}
use Rattle.std.specs.Str.{bytes_eq}
use Rattle.std.proofs.lemmas.Bool.Decides.{nat_tests}
use Rattle.std.proofs.lemmas.Slice.Eq.{bytes_eq-Decides}
use Rattle.amqp_session_performatives.specs.declared.transfer.Transfer.{Transfer}
use Rattle.amqp_link_types.specs.declared.refusals.ReceiverTransferError.TheVariants as refused
use Rattle.amqp_link_base.specs.Flows.{consumed}
use Rattle.amqp_link_base.specs.Said.{begun as said_begun}
use Rattle.amqp_link_base.specs.State.{is_attached}
use Rattle.amqp_link_base.specs.declared.inner.LinkFlowStateInner.{LinkFlowStateInner}
use Rattle.amqp_link_receiver.specs.AtOnce.{Entered, ReceivesMessage, TakesMessage, answered, brought, is_alone, numbered}
use Rattle.amqp_link_receiver.specs.Deliveries.{Delivery, Entries, begun, found, fresh, is_first, is_of_other_mode, is_second, limit_of, sized}
use Rattle.amqp_link_receiver.specs.Deliveries.{with_last}
use Rattle.amqp_link_receiver.specs.Incoming.{TakesTransfer}
use Rattle.amqp_link_receiver.specs.Numbering.{message_named, named_at}
use Rattle.amqp_link_receiver.specs.Reading.{head_of, place_of, says}
use Rattle.amqp_link_receiver.specs.Readings.{delivery_said}
use Rattle.amqp_link_receiver.specs.Receiving.{Outcome, Receiving, completed, entered, entered_at, message_of, noted, received}
use Rattle.amqp_link_receiver.specs.Receiving.{received_head, refusal, registering, renumbered, spent, whole_of, without}
use Rattle.amqp_link_receiver.specs.State.{ReceiverState, attachment_of}
use Rattle.amqp_link_receiver.specs.declared.answer.Answer.{Answer}
use Rattle.amqp_link_receiver.specs.declared.answer.Told.TheVariants as told
use Rattle.amqp_link_receiver.specs.declared.attachment.Attachment.{Attachment}
use Rattle.amqp_link_receiver.specs.declared.entry.Entry.{Entry}
use Rattle.amqp_link_receiver.specs.declared.entry.Entry.TheVariants.{Whole}
use Rattle.amqp_link_receiver.specs.declared.head.Head.{Head}
use Rattle.amqp_link_receiver.specs.declared.head.Start.{Start}
use Rattle.amqp_link_receiver.proofs.Entering.{none_taken}

-- what a transfer says that brings a whole message
abbrev head : Transfer → ℕ → List ℕ → Head
head t number tag =
    record {
      delivery_id = Some number;
      delivery_tag = Some tag;
      message_format = t.message_format;
      settled = says t.settled;
      more = false;
      rcv_settle_mode = t.rcv_settle_mode;
      place = place_of t.state;
      resume = false;
      aborted = false;
    }

abbrev start : Transfer → ℕ → List ℕ → Start
start t number tag =
    record {
      delivery_id = number;
      delivery_tag = tag;
      message_format = t.message_format;
      settled = says t.settled;
      rcv_settle_mode = t.rcv_settle_mode;
      place = place_of t.state;
      resume = false;
    }

alone-each : (a m r : Bool) → (not a && not m && not r) ≡ true → (a ≡ false) × (m ≡ false) × (r ≡ false)
alone-each true m r h = absurd cc
alone-each false true r h = absurd cc
alone-each false false true h = absurd cc
alone-each false false false h = (refl, refl, refl)

no-zero : (n : ℕ) → 0 < n → (n == 0) ≡ false
no-zero n h = grind (arith, nat_tests)

-- what is answered to a transfer that brings a delivery whole
abbrev answer : Delivery → Result Answer AllocError
answer d = Ok (record { registering = registering None d; told = told.Message (message_of d) })

abbrev first : Outcome → Result Answer AllocError
first o = Ok o.0

module _ (attachment : Attachment) (t : Transfer) (payload : List ℕ) (number : ℕ) (tag : List ℕ)
    (id : t.delivery_id ≡ Some number) (tagged : t.delivery_tag ≡ Some tag) where
  headed : is_alone t ≡ true → head_of t ≡ head t number tag
  headed alone = let each = alone-each t.aborted t.more t.resume alone in cc

  named-so : unwrap_or t.delivery_tag [] ≡ tag
  named-so = ap (λ (o : Option (List ℕ)). unwrap_or o []) tagged

  said : delivery_said (said_begun t payload) ≡ brought t number tag payload
  said =
      let one : unwrap_or t.delivery_id 0 ≡ number = ap (λ (o : Option ℕ). unwrap_or o 0) id in
      let two : unwrap_or t.delivery_tag [] ≡ tag = named-so in
      cc

  -- what comes of it, by what is looked up and tested
  outcome : (s : Receiving) → is_alone t ≡ true → s.held ≡ None → (s.flow.link_credit == 0) ≡ false
      → nat_lt (limit_of attachment.max_message_size) (0 + length payload) ≡ false
      → found s.unsettled tag ≡ None
      → is_of_other_mode attachment (brought t number tag payload) ≡ false
      → received attachment s t payload
      ≡ completed attachment (spent (record s { held = None })) (Ok (brought t number tag payload))
  outcome s alone held credit small absent own =
      let bare : Receiving = record s { held = None } in
      ap (λ (h : Head). received_head attachment s h payload) (headed alone)
      ∙ ap (λ (o : Option Delivery). received_head attachment (record s { held = o }) (head t number tag) payload) held
      ∙ ap (λ (b : Bool). if b then refusal refused.TransferLimitExceeded bare
      else completed attachment (spent bare) (with_last attachment payload (fresh (start t number tag) (found s.unsettled tag)))) credit
      ∙ ap (λ (o : Option Entry). completed attachment (spent bare) (with_last attachment payload (fresh (start t number tag) o))) absent
      ∙ ap (λ (b : Bool). completed attachment (spent bare) (if b then Err refused.IllegalRcvSettleModeInTransfer
      else sized attachment (begun (start t number tag) []) payload)) own
      ∙ ap (λ (b : Bool). completed attachment (spent bare) (if b then Err refused.MessageSizeExceeded
      else Ok (brought t number tag payload))) small

-- a text is itself
same-bytes : (xs : List ℕ) → bytes_eq xs xs ≡ true
same-bytes xs = (bytes_eq-Decides xs xs).1 refl

-- the last of the entries, which alone has its tag
found-last : (es : Entries) (tag : List ℕ) (v : Entry) → found es tag ≡ None → found (es ++ (tag, v) ∷ []) tag ≡ Some v
found-last [] tag v none = ap (λ (b : Bool). cond b (Some v) None) (same-bytes tag)
found-last (e ∷ es) tag v none = by (bytes_eq tag e.0) none (found-last es tag v)
  where
    by : (b : Bool) → cond b (Some e.1) (found es tag) ≡ None
        → (found es tag ≡ None → found (es ++ (tag, v) ∷ []) tag ≡ Some v)
        → cond b (Some e.1) (found (es ++ (tag, v) ∷ []) tag) ≡ Some v
    by true h rest = absurd cc
    by false h rest = rest h

set-last : (es : Entries) (tag : List ℕ) (v w : Entry) → found es tag ≡ None
    → set_value (bytes_eq tag) (es ++ (tag, v) ∷ []) w ≡ es ++ (tag, w) ∷ []
set-last [] tag v w none = ap (λ (b : Bool). cond b ((tag, w) ∷ []) ((tag, v) ∷ [])) (same-bytes tag)
set-last (e ∷ es) tag v w none = by (bytes_eq tag e.0) none (set-last es tag v w)
  where
    by : (b : Bool) → cond b (Some e.1) (found es tag) ≡ None
        → (found es tag ≡ None → set_value (bytes_eq tag) (es ++ (tag, v) ∷ []) w ≡ es ++ (tag, w) ∷ [])
        → cond b ((e.0, w) ∷ (es ++ (tag, v) ∷ [])) (e ∷ set_value (bytes_eq tag) (es ++ (tag, v) ∷ []) w)
        ≡ e ∷ (es ++ (tag, w) ∷ [])
    by true h rest = absurd cc
    by false h rest = ap (λ (l : Entries). e ∷ l) (rest h)

module _ (attachment : Attachment) (es : Entries) (d : Delivery) (message : ℕ) (absent : found es d.delivery_tag ≡ None)
  where
    -- what is kept of it, with the number of its message
    abbrev entry : Entry
    entry = Whole (numbered attachment d message)

    named-last : es ++ (d.delivery_tag, entry) ∷ []
        ≡ message_named (entered es d.delivery_tag (Whole (whole_of attachment d))) d.delivery_tag message
    named-last =
        let kept : Entry = Whole (whole_of attachment d) in
        sym (ap (λ (o : Option Entry). message_named (entered_at es d.delivery_tag kept o) d.delivery_tag message) absent
        ∙ ap (λ (o : Option Entry). named_at (es ++ (d.delivery_tag, kept) ∷ []) d.delivery_tag message o)
        (found-last es d.delivery_tag kept absent)
        ∙ set-last es d.delivery_tag kept entry absent)

    -- what is entered is what is noted, and bears its number where it isn't settled
    named : (b : Bool) → d.joins ≡ false → d.settled ≡ b
        → (if b then es else es ++ (d.delivery_tag, entry) ∷ [])
        ≡ (if b then noted attachment es d (Whole (whole_of attachment d))
        else message_named (noted attachment es d (Whole (whole_of attachment d))) d.delivery_tag message)
    named true begins is =
        none_taken es d.delivery_tag absent
        ∙ ap (λ (b : Bool). if b then without es d.delivery_tag
        else (if d.joins then renumbered attachment es d
        else entered es d.delivery_tag (Whole (whole_of attachment d)))) (sym is)
    named false begins is =
        named-last
        ∙ ap (λ (b : Bool). message_named (if b then renumbered attachment es d
        else entered es d.delivery_tag (Whole (whole_of attachment d))) d.delivery_tag message) (sym begins)
        ∙ ap (λ (b : Bool). message_named (if b then without es d.delivery_tag
        else (if d.joins then renumbered attachment es d
        else entered es d.delivery_tag (Whole (whole_of attachment d)))) d.delivery_tag message) (sym is)

-- a field of one of two ends
field-of : (b : Bool) (s : Receiving) (flow : LinkFlowStateInner) (x y : Entries)
    → record s { flow = flow; held = None; unsettled = (if b then x else y) }
    ≡ (if b then record s { flow = flow; held = None; unsettled = x }
    else record s { flow = flow; held = None; unsettled = y })
field-of true s flow x y = refl
field-of false s flow x y = refl

module _ (attachment : Attachment) (es after : Entries) (d : Delivery) (message : ℕ) where
  pub entered_settled : found es d.delivery_tag ≡ None → d.settled ≡ true → after ≡ es
      → Entered attachment es d message after
  entered_settled absent settled is =
      record {
        absent = absent;
        own = ap (λ (b : Bool). not b && is_second d.rcv_settle_mode && is_first attachment.rcv_settle_mode) settled;
        becomes = is ∙ ap (λ (b : Bool). if b then es
            else es ++ (d.delivery_tag, Whole (numbered attachment d message)) ∷ []) (sym settled);
      }

  pub entered_whole : found es d.delivery_tag ≡ None → d.settled ≡ false
      → (is_second d.rcv_settle_mode && is_first attachment.rcv_settle_mode) ≡ false
      → after ≡ es ++ (d.delivery_tag, Whole (numbered attachment d message)) ∷ []
      → Entered attachment es d message after
  entered_whole absent settled own is =
      record {
        absent = absent;
        own =
            ap (λ (b : Bool). not b && is_second d.rcv_settle_mode && is_first attachment.rcv_settle_mode) settled
            ∙ own;
        becomes = is ∙ ap (λ (b : Bool). if b then es
            else es ++ (d.delivery_tag, Whole (numbered attachment d message)) ∷ []) (sym settled);
      }

pub taken_by_end : (attachment : Attachment) (s new : Receiving) (t : Transfer) (payload : List ℕ) (number : ℕ)
    (tag : List ℕ) (message : ℕ)
    → is_alone t ≡ true
    → t.delivery_id ≡ Some number
    → t.delivery_tag ≡ Some tag
    → s.held ≡ None
    → 0 < s.flow.link_credit
    → nat_lt (limit_of attachment.max_message_size) (0 + length payload) ≡ false
    → Entered attachment s.unsettled (brought t number tag payload) message new.unsettled
    → new ≡ record s { flow = consumed s.flow 1; unsettled = new.unsettled }
    → ReceivesMessage attachment s t payload message new
taken_by_end attachment s new t payload number tag message alone id tagged held credit small enters is =
    let d : Delivery = brought t number tag payload in
    let kept : Entries = noted attachment s.unsettled d (Whole (whole_of attachment d)) in
    let mid : Receiving = (completed attachment (spent (record s { held = None })) (Ok d)).1 in
    let comes = outcome attachment t payload number tag id tagged s alone held (no-zero s.flow.link_credit credit) small enters.absent enters.own in
    record {
      number = ap (λ (o : Option ℕ). is_some o) id;
      tag = ap (λ (o : Option (List ℕ)). is_some o) tagged;
      mid = mid;
      received = inr (
        ap (λ (e : Delivery). answer e) (said attachment t payload number tag id tagged)
            ∙ ap (λ (o : Outcome). first o) (sym comes),
        ap (λ (o : Outcome). o.1) (sym comes),
      );
      named = is
          ∙ ap (λ (o : Option Delivery). record s { flow = consumed s.flow 1; held = o; unsettled = new.unsettled }) held
          ∙ ap (λ (es : Entries). record s { flow = consumed s.flow 1; held = None; unsettled = es })
          (enters.becomes ∙ named attachment s.unsettled d message enters.absent d.settled refl refl)
          ∙ field-of d.settled s (consumed s.flow 1) kept (message_named kept tag message)
          ∙ ap (λ (name : List ℕ). if d.settled then mid
          else record mid { unsettled = message_named mid.unsettled name message })
          (sym (named-so attachment t payload number tag id tagged));
    }

either : (b : Bool) (s : ReceiverState) (x y : Receiving)
    → record s { end = (if b then x else y) } ≡ (if b then record s { end = x } else record s { end = y })
either true s x y = refl
either false s x y = refl

-- a link that is attached takes it as its end does
pub taken_by_link : (s new : ReceiverState) (t : Transfer) (payload : List ℕ) (message : ℕ)
    → is_attached s.base.local_state ≡ true
    → ReceivesMessage (attachment_of s) s.end t payload message new.end
    → new ≡ record s { end = new.end }
    → TakesMessage s t payload message new
taken_by_link s new t payload message attached done is =
    let after : ReceiverState = record s { end = done.mid } in
    let tag : List ℕ = unwrap_or t.delivery_tag [] in
    record {
      number = done.number;
      tag = done.tag;
      mid = after;
      received = subst (λ b. TakesTransfer b s t payload (Ok (answered t payload)) after) (sym attached) (done.received, refl);
      named = is ∙ ap (λ (e : Receiving). record s { end = e }) done.named
          ∙ either (says t.settled) s done.mid
          (record done.mid { unsettled = message_named done.mid.unsettled tag message });
    }
