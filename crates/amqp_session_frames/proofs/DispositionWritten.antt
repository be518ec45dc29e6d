-- A Disposition in its common form is written by hand.
use Rattle.std.proofs.Common.{◌≡◌, ℕ, ◌+◌, ◌<◌, ◌≤◌, ◌^◌, List, [], ◌∷◌, ◌++◌, length, Bool, true, false, Option, Some, None, IfSome, refl, sym, ◌∙◌, ap, subst, arith, length-append}
use Rattle.std.specs.Prelude.{slice_range}
use Rattle.serde_amqp_item.specs.Item.{Item, Items, scalar, boolean, null, uint, ulong, list, described, no_items, more_items}
use Rattle.serde_amqp_item.specs.Record.{option_item, record_item}
use Rattle.serde_amqp_item.specs.Canon.{canon, canon_all}
use Rattle.serde_amqp_de.specs.Takes.{is_boolean, or_null}
use Rattle.amqp_session_types.specs.Modes.{role_item}
use Rattle.amqp_session_types.specs.declared.modes.Role.{Role}
use Rattle.amqp_session_types.specs.declared.modes.Role.TheVariants.{Sender, Receiver}
use Rattle.amqp_session_states.specs.DeliveryState.{delivery_state_item}
use Rattle.amqp_session_states.specs.declared.delivery_state.DeliveryState.{DeliveryState}
use Rattle.amqp_session_performatives.specs.Disposition.{disposition_item}
use Rattle.amqp_session_performatives.specs.declared.disposition.Disposition.{Disposition}
use Rattle.amqp_session_frames.specs.CommonDisposition.{HaveRange, bare_item, common_text, disposition_text, fields_text, last_text, outcome_code, outcome_text, receives, saying_only, settled_text, state_of}
use Rattle.amqp_session_frames.specs.Items.{Holds, Puts, boolean_text, short_record, uint_text}
use Rattle.amqp_session_frames.specs.declared.common_disposition.BareOutcome.{BareOutcome}
use Rattle.amqp_session_frames.specs.declared.common_disposition.BareOutcome.TheVariants.{Accepted, Rejected, Released, Modified}
use Rattle.amqp_session_frames.specs.declared.common_disposition.DispositionFields.{DispositionFields}
use Rattle.amqp_session_frames.proofs.ItemTexts.{items_canon, record_canon, uint_canon}
use Rattle.amqp_session_frames.proofs.Puts.{both_put, record_held}

-- ---- the text

outcome_is : (o : BareOutcome) → delivery_state_item (state_of o) ≡ bare_item o
outcome_is Accepted = refl
outcome_is Rejected = refl
outcome_is Released = refl
outcome_is Modified = refl

outcome_only : (o : BareOutcome) → canon_all (more_items (bare_item o) no_items) ≡ Some (outcome_text o)
outcome_only Accepted = refl
outcome_only Rejected = refl
outcome_only Released = refl
outcome_only Modified = refl

role_canon : (r : Role) → canon (role_item r) ≡ Some (boolean_text (receives r))
role_canon Sender = refl
role_canon Receiver = refl

last_canon : (last : Option ℕ) → IfSome last (λ n. n < 2 ^ 32) → canon (option_item (λ n. scalar (uint n)) last) ≡ Some (last_text last)
last_canon None r = refl
last_canon (Some n) r = uint_canon n r

settled_canon : (settled : Bool) → canon (or_null (is_boolean false) (scalar (boolean settled))) ≡ Some (settled_text settled)
settled_canon true = refl
settled_canon false = refl

abbrev all_items : Role → ℕ → Option ℕ → Bool → BareOutcome → Items
all_items role first last settled o =
    more_items (role_item role) (more_items (scalar (uint first)) (more_items (option_item (λ n. scalar (uint n)) last)
    (more_items (or_null (is_boolean false) (scalar (boolean settled))) (more_items (bare_item o) no_items))))

-- a disposition's item where its state is written so
abbrev item_with : DispositionFields → Item → Item
item_with f s =
    record_item 0x15 (role_item f.role ∷ scalar (uint f.first) ∷ option_item (λ n. scalar (uint n)) f.last
    ∷ or_null (is_boolean false) (scalar (boolean f.settled)) ∷ s ∷ scalar null ∷ [])

bare_with : (role : Role) (first : ℕ) (last : Option ℕ) (settled : Bool) (o : BareOutcome)
    → item_with (record { role = role; first = first; last = last; settled = settled; outcome = o }) (bare_item o)
    ≡ described (scalar (ulong 0x15)) (list (all_items role first last settled o))
bare_with Sender first None true o = refl
bare_with Sender first None false o = refl
bare_with Sender first (Some n) true o = refl
bare_with Sender first (Some n) false o = refl
bare_with Receiver first None true o = refl
bare_with Receiver first None false o = refl
bare_with Receiver first (Some n) true o = refl
bare_with Receiver first (Some n) false o = refl

all_canon : (f : DispositionFields) → HaveRange f → canon_all (all_items f.role f.first f.last f.settled f.outcome) ≡ Some (fields_text f)
unfolding fields_text
all_canon f r =
    let outcome : Items = more_items (bare_item f.outcome) no_items in
    let settling : Items = more_items (or_null (is_boolean false) (scalar (boolean f.settled))) outcome in
    let lasting : Items = more_items (option_item (λ n. scalar (uint n)) f.last) settling in
    let numbered : Items = more_items (scalar (uint f.first)) lasting in
    items_canon (role_item f.role) numbered _ _ (role_canon f.role)
    (items_canon (scalar (uint f.first)) lasting _ _ (uint_canon f.first r.first)
    (items_canon (option_item (λ n. scalar (uint n)) f.last) settling _ _ (last_canon f.last r.last)
    (items_canon (or_null (is_boolean false) (scalar (boolean f.settled))) outcome _ _ (settled_canon f.settled)
    (outcome_only f.outcome))))

common_canon : (f : DispositionFields) → HaveRange f → 0 < length (fields_text f) → length (fields_text f) < 255
    → disposition_text (saying_only f) ≡ Some (common_text f)
unfolding common_text disposition_text
common_canon f r some short =
    ap (λ (x : Item). canon (item_with f x)) (outcome_is f.outcome)
    ∙ ap canon (bare_with f.role f.first f.last f.settled f.outcome)
    ∙ record_canon 0x15 (all_items f.role f.first f.last f.settled f.outcome) (fields_text f) 5 refl (all_canon f r) refl some short

-- ---- what is put

same_role : (r : Role) (b : Bool) → role_item r ≡ scalar (boolean b) → b ≡ receives r
same_role Sender true is = absurd cc
same_role Sender false is = refl
same_role Receiver true is = refl
same_role Receiver false is = absurd cc

pub fields_put : (f : DispositionFields) (b : Bool) (code at one two three four end : ℕ) (old a c d e new : List ℕ)
    → role_item f.role ≡ scalar (boolean b) → code ≡ outcome_code f.outcome
    → Puts (boolean_text b) at one old a → Puts (uint_text f.first) one two a c → Puts (last_text f.last) two three c d
    → Puts (settled_text f.settled) three four d e → Puts (0 ∷ 0x53 ∷ code ∷ 0x45 ∷ []) four end e new
    → Puts (fields_text f) at end old new
unfolding fields_text
fields_put f b code at one two three four end old a c d e new role coded r h n s o =
    both_put (boolean_text (receives f.role)) _ old a new at one end (subst (λ (x : Bool). Puts (boolean_text x) at one old a) (same_role f.role b role) r)
    (both_put (uint_text f.first) _ a c new one two end h
    (both_put (last_text f.last) _ c d new two three end n
    (both_put (settled_text f.settled) (outcome_text f.outcome) d e new three four end s
    (subst (λ (k : ℕ). Puts (0 ∷ 0x53 ∷ k ∷ 0x45 ∷ []) four end e new) coded o))))

some_long : (a b c d r : List ℕ) (x y z w : ℕ) → 0 < length (a ++ (b ++ (c ++ (d ++ (x ∷ y ∷ z ∷ w ∷ [])))))
some_long a b c d r x y z w =
    omega (
      arith,
      length-append a (b ++ (c ++ (d ++ (x ∷ y ∷ z ∷ w ∷ [])))),
      length-append b (c ++ (d ++ (x ∷ y ∷ z ∷ w ∷ []))),
      length-append c (d ++ (x ∷ y ∷ z ∷ w ∷ [])),
      length-append d (x ∷ y ∷ z ∷ w ∷ []),
    )

fields_long : (f : DispositionFields) → 0 < length (fields_text f)
unfolding fields_text
fields_long f = some_long (boolean_text (receives f.role)) (uint_text f.first) (last_text f.last) (settled_text f.settled) [] 0 0x53 (outcome_code f.outcome) 0x45

pub disposition_put : (f : DispositionFields) (end : ℕ) (old mid new : List ℕ) → HaveRange f → end ≤ 30
    → Puts (fields_text f) 14 end old mid
    → Puts (short_record 0x15 5 (slice_range mid 14 end)) 8 end mid new
    → length old ≡ 72 → length mid ≡ 72 → length new ≡ 72
    → Holds (disposition_text (saying_only f)) end new
unfolding common_text
disposition_put f end old mid new r small fields whole one two three =
    record_held _ 0x15 5 end (fields_text f) old mid new
    (common_canon f r (fields_long f) (omega (arith, fields.long, small)))
    fields whole (omega (arith, one)) (omega (arith, two)) (omega (arith, three, small))

-- ---- a disposition by its fields

abbrev by_fields : Disposition → Disposition
by_fields d =
    record { role = d.role; first = d.first; last = d.last; settled = d.settled; state = d.state; batchable = d.batchable }

pub says_only : (d : Disposition) (s : DeliveryState) (o : BareOutcome) → d.batchable ≡ false → d.state ≡ Some s → s ≡ state_of o
    → d ≡ saying_only (record { role = d.role; first = d.first; last = d.last; settled = d.settled; outcome = o })
says_only d s o batchable state is =
    let same : by_fields d ≡ saying_only (record { role = d.role; first = d.first; last = d.last; settled = d.settled; outcome = o }) =
    ap (λ (b : Bool). record { role = d.role; first = d.first; last = d.last; settled = d.settled; state = d.state; batchable = b }) batchable
    ∙ ap (λ (x : Option DeliveryState). record { role = d.role; first = d.first; last = d.last; settled = d.settled; state = x; batchable = false })
    (state ∙ ap (λ (x : DeliveryState). Some x) is) in
    same

pub written_only : (d : Disposition) (f : DispositionFields) (end : ℕ) (bytes : List ℕ) → d ≡ saying_only f → Holds (disposition_text (saying_only f)) end bytes
    → Holds (disposition_text d) end bytes
written_only d f end bytes same held =
    record { from = held.from; within = held.within; is = ap disposition_text same ∙ held.is }
