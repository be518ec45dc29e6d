-- Reading an array, or one element.
use Rattle.std.proofs.Common.{◌≡◌, ◌≢◌, ℕ, List, [], ◌∷◌, Option, Some, sym, ◌∙◌, ap, subst, refl}
use Rattle.serde_amqp_item.specs.declared.codes.EncodingCodes.{EncodingCodes}
use Rattle.serde_amqp_item.specs.declared.codes.EncodingCodes.TheVariants.{Null, Array8, Array32}
use Rattle.serde_amqp_item.specs.Item.{Item, array, items_of}
use Rattle.serde_amqp_item.specs.Kind.{Kind, kind_at, null_kind, array_kind}
use Rattle.serde_amqp_de.specs.Reads.{At, Refuses, Took, TookOne, Foresees}
use Rattle.serde_amqp_de.specs.Takes.{kind_seen, elements_taken}
use Rattle.serde_amqp_de.proofs.Heads.{no_head_refuses}
use Rattle.serde_amqp_de.proofs.Sequences.{Single}
use Rattle.serde_amqp_de.proofs.Values.{foreseen_seen}
use Rattle.serde_amqp_types.specs.Takes.{as_one, array_or_one_taken}
use Rattle.serde_amqp_types.specs.Deciding.{one_same, elements_same, null_refused}

-- an array was taken
taken_too : (take : Item → Option Item) (x u : Item) → elements_taken take x ≡ Some u → array_or_one_taken take x ≡ Some u
unfolding elements_taken array_or_one_taken
taken_too take (array xs) u e = e
taken_too take x u e = absurd cc

pub elements_took : (take : Item → Option Item) (k : Option ℕ) (old mid new : At) (y : Item) → mid ≡ old → Took (elements_taken take) k mid new y → Took (array_or_one_taken take) k old new y
elements_took take k old mid new y same t =
    let s : Took (elements_taken take) k old new y = subst (λ (a : At). Took (elements_taken take) k a new y) same t in
    record { item = s.item; reads = s.reads; taken = taken_too take s.item y s.taken }

elements_refused : (take : Item → Option Item) (k : Option ℕ) (old mid : At) (code : EncodingCodes) → kind_at code ≡ array_kind → Foresees k old code → mid ≡ old → Refuses (elements_taken take) k mid → Refuses (array_or_one_taken take) k old
elements_refused take k old mid code is p same r =
    let s : Refuses (elements_taken take) k old = subst (λ (a : At). Refuses (elements_taken take) k a) same r in
    record { none = λ x f more w e. elements_same take x (foreseen_seen k old code x f more p w e ∙ ap (λ (t : Kind). Some t) is) ∙ s.none x f more w e }

pub elements8_refused : (take : Item → Option Item) (k : Option ℕ) (old mid : At) → Foresees k old Array8 → mid ≡ old → Refuses (elements_taken take) k mid → Refuses (array_or_one_taken take) k old
elements8_refused take k old mid p same r = elements_refused take k old mid Array8 refl p same r

pub elements32_refused : (take : Item → Option Item) (k : Option ℕ) (old mid : At) → Foresees k old Array32 → mid ≡ old → Refuses (elements_taken take) k mid → Refuses (array_or_one_taken take) k old
elements32_refused take k old mid p same r = elements_refused take k old mid Array32 refl p same r

-- null was foreseen
pub foreseen_null_refused : (take : Item → Option Item) (k : Option ℕ) (old : At) → Foresees k old Null → Refuses (array_or_one_taken take) k old
foreseen_null_refused take k old p = record { none = λ x f more w e. null_refused take x (foreseen_seen k old Null x f more p w e) }

unlike : (x : Item) (s t : Kind) → kind_seen x ≡ Some s → s ≢ t → kind_seen x ≢ Some t
unlike x s t e n q = n (let both : Some s ≡ Some t = sym e ∙ q in cc)

one_alone : (take : Item → Option Item) (k : Option ℕ) (old mid new : At) (y : Item) → Single k old mid → Took take k mid new y → Took (array_or_one_taken take) k old new (array (items_of (y ∷ [])))
one_alone take k old mid new y p t =
    let s : Took take k old new y = subst (λ (a : At). Took take k a new y) p.same t in
    let seen = foreseen_seen k old p.code s.item s.reads.front new.rest p.foresees s.reads.wire s.reads.moves.split in
    record {
      item = s.item;
      reads = s.reads;
      taken = one_same take s.item (unlike s.item (kind_at p.code) null_kind seen p.plain) (unlike s.item (kind_at p.code) array_kind seen p.several) ∙ ap as_one s.taken;
    }

pub one_took : (take : Item → Option Item) (k : Option ℕ) (old mid new : At) (ys : List Item) → Single k old mid → TookOne take k mid new ys → Took (array_or_one_taken take) k old new (array (items_of ys))
one_took take k old mid new ys p t = subst (λ (zs : List Item). Took (array_or_one_taken take) k old new (array (items_of zs))) (sym t.one) (one_alone take k old mid new t.value p t.took)

pub one_refused : (take : Item → Option Item) (k : Option ℕ) (old mid : At) → Single k old mid → Refuses take k mid → Refuses (array_or_one_taken take) k old
one_refused take k old mid p r =
    let s : Refuses take k old = subst (λ (a : At). Refuses take k a) p.same r in
    record {
      none = λ x f more w e.
          let seen = foreseen_seen k old p.code x f more p.foresees w e in
          one_same take x (unlike x (kind_at p.code) null_kind seen p.plain) (unlike x (kind_at p.code) array_kind seen p.several) ∙ ap as_one (s.none x f more w e);
    }

pub ruleset arrays = (no_head_refuses, elements_took, elements8_refused, elements32_refused, foreseen_null_refused, one_took, one_refused)
