-- Deliveries that are resumed from the bytes that are kept of them.
use Rattle.std.proofs.Common.{◌≡◌, ℕ, List, [], ◌∷◌, ◌++◌, Bool, true, false, cond, Option, None, Some, IsSome, ap, sym, ◌∙◌, refl, subst, inl, inr, take}
use Rattle.std.specs.Prelude.{Result, Ok, Err, if◌then◌else◌}
use Rattle.std.specs.Map.{lookup, remove_entry, set_value}
use Rattle.std.specs.Str.{bytes_eq}
use Rattle.amqp_link_types.specs.declared.refusals.ReceiverTransferError.{ReceiverTransferError}
use Rattle.amqp_link_types.specs.declared.refusals.ReceiverTransferError.TheVariants as refused
use Rattle.amqp_link_receiver.specs.declared.attachment.Attachment.{Attachment}
use Rattle.amqp_link_receiver.specs.declared.head.Start.{Start}
use Rattle.amqp_link_receiver.specs.declared.entry.Entry.{Entry}
use Rattle.amqp_link_receiver.specs.declared.entry.Entry.TheVariants.{Half, Whole}
use Rattle.amqp_link_receiver.specs.declared.answer.Registering.{Registering}
use Rattle.amqp_link_receiver.specs.Deliveries.{Delivery, Entries, begun, found, grown, kept_bytes}
use Rattle.amqp_link_receiver.specs.Receiving.{entered_at, noted, registering, without}
use Rattle.amqp_link_receiver.specs.Steps.{Begins, IsHalf, registered}
use Rattle.amqp_link_receiver.proofs.Entering.{lookup-set, put-over, set_value_back}

-- what is put in the place of an entry goes with it
remove-set : (test : List ℕ → Bool) (es : Entries) (v : Entry) → remove_entry test (set_value test es v) ≡ remove_entry test es
remove-set test [] v = refl
remove-set test (e ∷ es) v = by (test e.0) refl (remove-set test es v)
  where
    by : (b : Bool) → test e.0 ≡ b → remove_entry test (set_value test es v) ≡ remove_entry test es
        → remove_entry test (cond b ((e.0, v) ∷ es) (e ∷ set_value test es v)) ≡ cond b es (e ∷ remove_entry test es)
    by true h rest = ap (λ (c : Bool). cond c es ((e.0, v) ∷ remove_entry test es)) h
    by false h rest = ap (λ (c : Bool). cond c (set_value test es v) (e ∷ remove_entry test (set_value test es v))) h ∙ ap (λ (l : Entries). e ∷ l) rest

-- an entry whose bytes are taken out is there still
pub still-half : (es one : Entries) (tag kept : List ℕ) → found es tag ≡ Some (Half kept) → one ≡ set_value (bytes_eq tag) es (Half []) → IsHalf (found one tag)
still-half es one tag kept e at =
    let P : Option Entry → Type 0 = λ o. IsSome o in
    let there : found (set_value (bytes_eq tag) es (Half [])) tag ≡ Some (Half []) = lookup-set (bytes_eq tag) es (Half []) (subst P (sym e) refl) in
    let Q : Option Entry → Type 0 = λ o. IsHalf o in
    let R : Entries → Type 0 = λ l. IsHalf (found l tag) in
    subst R (sym at) (subst Q (sym there) tt)

-- put back where there was no memory: all is as before
pub half-back : (att : Attachment) (es one two : Entries) (tag kept : List ℕ) (x : Result Delivery ReceiverTransferError) (r : Result (Delivery × Registering) ReceiverTransferError)
    → found es tag ≡ Some (Half kept) → one ≡ set_value (bytes_eq tag) es (Half []) → two ≡ set_value (bytes_eq tag) one (Half kept) → r ≡ Err refused.Memory
    → Begins att es x r two
half-back att es one two tag kept x r e a b is = inl (is, set_value_back (bytes_eq tag) es one two (Half []) (Half kept) e a b)

abbrev began : Delivery × Registering → Result (Delivery × Registering) ReceiverTransferError
began p = Ok p

half-noted : (b : Bool) (es : Entries) (tag kept : List ℕ) → found es tag ≡ Some (Half kept)
    → (if b then without (set_value (bytes_eq tag) es (Half [])) tag else set_value (bytes_eq tag) es (Half []))
    ≡ (if b then without es tag else entered_at es tag (Half []) (found es tag))
half-noted true es tag kept e = remove-set (bytes_eq tag) es (Half [])
half-noted false es tag kept e = sym (ap (λ (o : Option Entry). entered_at es tag (Half []) o) e)

-- what goes on from the bytes that were kept begins a delivery
pub half-resumes : (att : Attachment) (es one two after : Entries) (t : Start) (at : ℕ) (payload kept bytes : List ℕ) (d : Delivery) (g : Registering)
    → found es t.delivery_tag ≡ Some (Half kept)
    → one ≡ set_value (bytes_eq t.delivery_tag) es (Half [])
    → two ≡ one
    → bytes ≡ take at kept ++ payload
    → d ≡ begun t bytes
    → g ≡ registered t.settled t.delivery_id t.delivery_tag
    → after ≡ (if d.settled then without two d.delivery_tag else two)
    → Begins att es (Ok (grown (begun t (take at (kept_bytes (found es t.delivery_tag)))) payload)) (Ok (d, g)) after
half-resumes att es one two after t at payload kept bytes d g e a b is made reg ends =
    let front : List ℕ = take at (kept_bytes (found es t.delivery_tag)) in
    let whole : Delivery = grown (begun t front) payload in
    let same : d ≡ whole =
    made ∙ ap (λ (l : List ℕ). begun t l) is ∙ sym (ap (λ (o : Option Entry). begun t (take at (kept_bytes o) ++ payload)) e) in
    let noting : after ≡ noted att es whole (Half []) =
    ends ∙ ap (λ (x : Delivery). if x.settled then without two x.delivery_tag else two) made
    ∙ ap (λ (l : Entries). if t.settled then without l t.delivery_tag else l) (b ∙ a)
    ∙ half-noted t.settled es t.delivery_tag kept e in
    inr (ap (λ (x : Delivery). began (x, g)) same ∙ ap (λ (h : Registering). began (whole, h)) reg, noting)
