-- What a receiving end hands out over a list of transfers.
use Rattle.std.proofs.Common.{◌≡◌, ℕ, List, [], ◌∷◌, ◌++◌, Bool, true, false, ap, sym, ◌∙◌, refl, subst, ⊎_elim, append_assoc}
use Rattle.std.proofs.lemmas.List.{append-nil}
use Rattle.std.specs.Prelude.{alloc_error, Option, Some, None, Result, Ok, Err, map, unwrap_or, ◌==◌, ◌||◌, if◌then◌else◌}
use Rattle.std.specs.declared.alloc.AllocError.{AllocError}
use Rattle.amqp_session_performatives.specs.declared.transfer.Transfer.{Transfer}
use Rattle.amqp_link_types.specs.declared.refusals.ReceiverTransferError.{ReceiverTransferError}
use Rattle.amqp_link_types.specs.declared.refusals.ReceiverTransferError.TheVariants as refused
use Rattle.amqp_link_base.specs.Said.{Said, settled_by, begun as begins, continued as goes_on, whole}
use Rattle.amqp_link_base.specs.Readings.{Piece, Reading, readings, read_on, opened, brought}
use Rattle.amqp_link_receiver.specs.declared.head.Head.{Head}
use Rattle.amqp_link_receiver.specs.declared.head.Start.{Start}
use Rattle.amqp_link_receiver.specs.declared.entry.Entry.{Entry}
use Rattle.amqp_link_receiver.specs.declared.attachment.Attachment.{Attachment}
use Rattle.amqp_link_receiver.specs.declared.answer.Message.{Message}
use Rattle.amqp_link_receiver.specs.declared.answer.Answer.{Answer}
use Rattle.amqp_link_receiver.specs.declared.answer.Told.{Told}
use Rattle.amqp_link_receiver.specs.declared.answer.Registering.{Registering}
use Rattle.amqp_link_receiver.specs.declared.answer.Registering.TheVariants.{Unchanged, Settled}
use Rattle.amqp_link_receiver.specs.Reading.{says, head_of}
use Rattle.amqp_link_receiver.specs.Deliveries.{Delivery, Entries, found, agrees, begun, continued, delivery_of}
use Rattle.amqp_link_receiver.specs.Deliveries.{begun_by, fresh, grown, is_of_other_mode, is_too_large, sized}
use Rattle.amqp_link_receiver.specs.Deliveries.{start_of, started, with_last, with_part}
use Rattle.amqp_link_receiver.specs.Receiving.{Receiving, Receives, Outcome, aborted, completed, completion, dropped}
use Rattle.amqp_link_receiver.specs.Receiving.{ended, first_aborted, kept_on, number_of, received, refusal, spent}
use Rattle.amqp_link_receiver.specs.Readings.{IsTaken, Taken, TakesAll, delivery_said, handed_out, held_said}
use Rattle.amqp_link_receiver.specs.Readings.{message_said, messages_in, pieces_of}

ok-if : {A E : Type 0} (b : Bool) (e : E) (x d : A) → (if b then Err e else Ok x) ≡ Ok d → d ≡ x
ok-if true e x d h = absurd (cc)
ok-if false e x d h = cc

-- the tests of a last transfer, or of one that isn't the last
abbrev tested : Bool → Attachment → List ℕ → Result Delivery ReceiverTransferError → Result Delivery ReceiverTransferError
tested true attachment payload g = with_last attachment payload g
tested false attachment payload g = with_part attachment payload g

sized-ok : (attachment : Attachment) (payload : List ℕ) (x d : Delivery) → sized attachment x payload ≡ Ok d → d ≡ grown x payload
sized-ok attachment payload x d h = ok-if (is_too_large attachment x payload) refused.MessageSizeExceeded (grown x payload) d h

mode-ok : (b : Bool) (attachment : Attachment) (payload : List ℕ) (x d : Delivery)
    → (if b then Err refused.IllegalRcvSettleModeInTransfer else sized attachment x payload) ≡ Ok d → d ≡ grown x payload
mode-ok true attachment payload x d h = absurd (cc)
mode-ok false attachment payload x d h = sized-ok attachment payload x d h

tested-ok : (last : Bool) (attachment : Attachment) (payload : List ℕ) (x d : Delivery) → tested last attachment payload (Ok x) ≡ Ok d → d ≡ grown x payload
tested-ok true attachment payload x d h = mode-ok (is_of_other_mode attachment x) attachment payload x d h
tested-ok false attachment payload x d h = sized-ok attachment payload x d h

tested-err : (last : Bool) (attachment : Attachment) (payload : List ℕ) (e : ReceiverTransferError) (d : Delivery) → tested last attachment payload (Err e) ≡ Ok d → ⊥
tested-err true attachment payload e d h = absurd (cc)
tested-err false attachment payload e d h = absurd (cc)

fresh-ok : (last : Bool) (attachment : Attachment) (payload : List ℕ) (t : Start) (entry : Option Entry) (d : Delivery)
    → tested last attachment payload (fresh t entry) ≡ Ok d → d ≡ grown (begun t []) payload
fresh-ok last attachment payload t None d h = tested-ok last attachment payload (begun t []) d h
fresh-ok last attachment payload t (Some entry) d h = absurd (tested-err last attachment payload refused.IllegalState d h)

abbrev unresumed : Head → Head
unresumed h = record h { resume = false }

abbrev first_said : Head → Option ℕ → Option (List ℕ) → List ℕ → Delivery
first_said h id tag payload =
    record {
      delivery_id = unwrap_or id 0;
      delivery_tag = unwrap_or tag [];
      message_format = h.message_format;
      settled = h.settled;
      rcv_settle_mode = h.rcv_settle_mode;
      payload = payload;
      joins = false;
    }

first-ok : (last : Bool) (attachment : Attachment) (payload : List ℕ) (entries : Entries) (h : Head) (id : Option ℕ) (tag : Option (List ℕ)) (d : Delivery)
    → tested last attachment payload (begun_by entries (started (unresumed h) id tag)) ≡ Ok d → d ≡ first_said h id tag payload
first-ok last attachment payload entries h None tag d e = absurd (tested-err last attachment payload refused.DeliveryIdIsNone d e)
first-ok last attachment payload entries h (Some id) None d e = absurd (tested-err last attachment payload refused.DeliveryTagIsNone d e)
first-ok last attachment payload entries h (Some id) (Some tag) d e =
    let t : Start = record { delivery_id = id; delivery_tag = tag; message_format = h.message_format; settled = h.settled; rcv_settle_mode = h.rcv_settle_mode; place = h.place; resume = false } in
    fresh-ok last attachment payload t (found entries tag) d e

settled-said : (a b : Option Bool) → (says a || says b) ≡ says (settled_by a b)
settled-said None None = refl
settled-said None (Some true) = refl
settled-said None (Some false) = refl
settled-said (Some true) None = refl
settled-said (Some true) (Some true) = refl
settled-said (Some true) (Some false) = refl
settled-said (Some false) None = refl
settled-said (Some false) (Some true) = refl
settled-said (Some false) (Some false) = refl

agreed-ok : (b : Bool) (last : Bool) (attachment : Attachment) (payload : List ℕ) (x d : Delivery)
    → tested last attachment payload (if b then Ok x else Err refused.InconsistentFieldInMultiFrameDelivery) ≡ Ok d → d ≡ grown x payload
agreed-ok true last attachment payload x d e = tested-ok last attachment payload x d e
agreed-ok false last attachment payload x d e = absurd (tested-err last attachment payload refused.InconsistentFieldInMultiFrameDelivery d e)

abbrev plain : Transfer → Transfer
plain t = record t { resume = false }

-- a transfer that is taken brings the delivery to what is said
delivery-ok : (last : Bool) (attachment : Attachment) (entries : Entries) (held : Option Said) (t : Transfer) (payload : List ℕ) (d : Delivery)
    → tested last attachment payload (delivery_of (held_said held) entries (head_of (plain t))) ≡ Ok d
    → d ≡ delivery_said (opened held (record { performative = plain t; payload = payload }))
delivery-ok last attachment entries None t payload d e = first-ok last attachment payload entries (head_of t) t.delivery_id t.delivery_tag d e
delivery-ok last attachment entries (Some s) t payload d e =
    agreed-ok (agrees (delivery_said s) (head_of (plain t))) last attachment payload (continued (delivery_said s) (head_of (plain t))) d e
    ∙ ap (λ (b : Bool). record (delivery_said s) { settled = b; payload = s.payload ++ payload }) (settled-said s.performative.settled t.settled)

-- the outcome of a transfer, by what is tested of it
abbrev outcome : Attachment → Bool → Bool → Bool → Outcome → Result Delivery ReceiverTransferError → Result Delivery ReceiverTransferError → Receiving → Outcome
outcome attachment gives_up more none gone part last s =
    if gives_up then gone else (if more then kept_on attachment s part else (if none then refusal refused.TransferLimitExceeded s else completed attachment (spent s) last))

abbrev answered : Answer → Result Answer AllocError
answered a = Ok a

ok-is : (x y : Answer) → answered x ≡ answered y → x ≡ y
ok-is x y e = cc

map-append : (xs ys : List Said) → map message_said (xs ++ ys) ≡ map message_said xs ++ map message_said ys
map-append [] ys = refl
map-append (x ∷ xs) ys = ap (λ (l : List Message). message_said x ∷ l) (map-append xs ys)

first-gone : (attachment : Attachment) (s new : Receiving) (a : Answer) (g : Result Start ReceiverTransferError) → a ≡ (first_aborted attachment s g).0 → new ≡ (first_aborted attachment s g).1 → IsTaken a.told
    → (new.held ≡ None) × ([] ≡ messages_in a.told)
first-gone attachment s new a (Err e) w n taken = absurd (let P : Answer → Type 0 = λ x. IsTaken x.told in subst P w taken)
first-gone attachment s new a (Ok t) w n taken = (ap (λ (x : Receiving). x.held) n, sym (ap (λ (x : Answer). messages_in x.told) w))

agreed-gone : (b : Bool) (r : Registering) (tag : List ℕ) (s new : Receiving) (a : Answer)
    → a ≡ (if b then dropped r s tag else refusal refused.InconsistentFieldInMultiFrameDelivery s).0
    → new ≡ (if b then dropped r s tag else refusal refused.InconsistentFieldInMultiFrameDelivery s).1 → IsTaken a.told
    → (new.held ≡ None) × ([] ≡ messages_in a.told)
agreed-gone true r tag s new a w n taken = (ap (λ (x : Receiving). x.held) n, sym (ap (λ (x : Answer). messages_in x.told) w))
agreed-gone false r tag s new a w n taken = absurd (let P : Answer → Type 0 = λ x. IsTaken x.told in subst P w taken)

gone-ok : (attachment : Attachment) (held : Option Delivery) (h : Head) (s new : Receiving) (a : Answer) → a ≡ (aborted attachment s held h).0 → new ≡ (aborted attachment s held h).1 → IsTaken a.told
    → (new.held ≡ None) × ([] ≡ messages_in a.told)
gone-ok attachment None h s new a w n taken = first-gone attachment s new a (start_of h) w n taken
gone-ok attachment (Some d) h s new a w n taken = agreed-gone (agrees d h) (if d.settled then Unchanged else Settled d.delivery_id) d.delivery_tag s new a w n taken

abbrev Went : Bool → Bool → Reading → Said → Answer → Receiving → Type 0
Went gives_up more r d a new =
    (new.held ≡ held_said (brought gives_up more r d).held)
    × (map message_said (brought gives_up more r d).messages ≡ map message_said r.messages ++ messages_in a.told)

completion-said : (d : Delivery) (x : Said) → d ≡ delivery_said x → messages_in (completion d) ≡ message_said x ∷ []
completion-said d x e = ap (λ (y : Delivery). messages_in (completion y)) e

-- one transfer that is taken
went : (attachment : Attachment) (gives_up more none : Bool) (r : Reading) (x : Said) (gone : Outcome) (part last : Result Delivery ReceiverTransferError) (s new : Receiving) (a : Answer)
    → (a ≡ gone.0 → new ≡ gone.1 → (new.held ≡ None) × ([] ≡ messages_in a.told))
    → ((d : Delivery) → part ≡ Ok d → d ≡ delivery_said x)
    → ((d : Delivery) → last ≡ Ok d → d ≡ delivery_said x)
    → a ≡ (outcome attachment gives_up more none gone part last s).0 → new ≡ (outcome attachment gives_up more none gone part last s).1 → IsTaken a.told
    → Went gives_up more r x a new
went attachment true more none r x gone part last s new a g p l w n taken =
    let done = g w n in
    (done.0, sym (append-nil (map message_said r.messages)) ∙ ap (λ (ms : List Message). map message_said r.messages ++ ms) done.1)
went attachment false true none r x gone (Ok d) last s new a g p l w n taken = (
  ap (λ (y : Receiving). y.held) n ∙ ap (λ (y : Delivery). Some y) (p d refl),
  sym (append-nil (map message_said r.messages)) ∙ sym (ap (λ (y : Answer). map message_said r.messages ++ messages_in y.told) w),
)
went attachment false true none r x gone (Err e) last s new a g p l w n taken = absurd (let P : Answer → Type 0 = λ y. IsTaken y.told in subst P w taken)
went attachment false false true r x gone part last s new a g p l w n taken = absurd (let P : Answer → Type 0 = λ y. IsTaken y.told in subst P w taken)
went attachment false false false r x gone part (Ok d) s new a g p l w n taken = (
  ap (λ (y : Receiving). y.held) n,
  map-append r.messages (whole x ∷ [])
      ∙ ap (λ (ms : List Message). map message_said r.messages ++ ms) (sym (completion-said d x (l d refl)))
      ∙ sym (ap (λ (y : Answer). map message_said r.messages ++ messages_in y.told) w),
)
went attachment false false false r x gone part (Err e) s new a g p l w n taken = absurd (let P : Answer → Type 0 = λ y. IsTaken y.told in subst P w taken)

plain-went : (attachment : Attachment) (s new : Receiving) (r : Reading) (t : Transfer) (payload : List ℕ) (a : Answer) → s.held ≡ held_said r.held
    → Receives attachment (record s { held = held_said r.held }) (plain t) payload (Ok a) new → IsTaken a.told
    → Went t.aborted t.more r (opened r.held (record { performative = plain t; payload = payload })) a new
plain-went attachment s new r t payload a at step taken =
    let old : Receiving = record s { held = held_said r.held } in
    let h : Head = head_of (plain t) in
    ⊎_elim (λ (x : (Ok a ≡ Err alloc_error) × (new ≡ old)). absurd (let e : Ok a ≡ Err alloc_error = x.0 in cc))
    (λ (x : (Ok a ≡ Ok (received attachment old (plain t) payload).0) × (new ≡ (received attachment old (plain t) payload).1)).
    let w : a ≡ (received attachment old (plain t) payload).0 = ok-is a (received attachment old (plain t) payload).0 x.0 in
    went attachment t.aborted t.more (s.flow.link_credit == 0) r (opened r.held (record { performative = plain t; payload = payload }))
    (aborted attachment old (held_said r.held) h)
    (with_part attachment payload (delivery_of (held_said r.held) s.unsettled h))
    (with_last attachment payload (delivery_of (held_said r.held) s.unsettled h))
    old new a
    (λ u v. gone-ok attachment (held_said r.held) h old new a u v taken)
    (λ d e. delivery-ok false attachment s.unsettled r.held t payload d e)
    (λ d e. delivery-ok true attachment s.unsettled r.held t payload d e)
    w x.1 taken)
    step

one-went : (attachment : Attachment) (s new : Receiving) (r : Reading) (p : Piece) (a : Answer) → s.held ≡ held_said r.held → p.performative.resume ≡ false
    → Receives attachment s p.performative p.payload (Ok a) new → IsTaken a.told
    → Went p.performative.aborted p.performative.more r (opened r.held p) a new
one-went attachment s new r p a at unresuming step taken =
    let t : Transfer = p.performative in
    let same : t ≡ plain t = ap (λ (b : Bool). record t { resume = b }) unresuming in
    let old : s ≡ record s { held = held_said r.held } = ap (λ (h : Option Delivery). record s { held = h }) at in
    let P : Transfer → Type 0 = λ u. Receives attachment s u p.payload (Ok a) new in
    let Q : Receiving → Type 0 = λ u. Receives attachment u (plain t) p.payload (Ok a) new in
    let step' : Receives attachment (record s { held = held_said r.held }) (plain t) p.payload (Ok a) new = subst Q old (subst P same step) in
    let R : Transfer → Type 0 = λ u. Went u.aborted u.more r (opened r.held (record { performative = u; payload = p.payload })) a new in
    subst R (sym same) (plain-went attachment s new r t p.payload a at step' taken)

pub all-handed : (attachment : Attachment) (start end : Receiving) (before : Reading) (steps : List Taken) → start.held ≡ held_said before.held → TakesAll attachment start steps end
    → (map message_said (readings before (pieces_of steps)).messages ≡ map message_said before.messages ++ handed_out steps)
    × (end.held ≡ held_said (readings before (pieces_of steps)).held)
all-handed attachment start end before [] at run =
    (sym (append-nil (map message_said before.messages)), ap (λ (s : Receiving). s.held) run ∙ at)
all-handed attachment start end before (s ∷ steps) at run =
    let one = one-went attachment start run.0 before s.piece s.answer at run.3 run.1 run.2 in
    let rest = all-handed attachment run.0 end (read_on before s.piece) steps one.0 run.4 in (
      rest.0 ∙ ap (λ (ms : List Message). ms ++ handed_out steps) one.1
          ∙ append_assoc (map message_said before.messages) (messages_in s.answer.told) (handed_out steps),
      rest.1,
    )
