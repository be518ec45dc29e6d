-- Fields that have a default.
use Rattle.std.proofs.Common.{◌≡◌, ℕ, Bool, true, false, Option, Some, sym, ◌∙◌, ap, refl, arith}
use Rattle.std.proofs.lemmas.Bool.Decides.{nat_tests}
use Rattle.std.specs.Prelude.{◌==◌}
use Rattle.serde_amqp_item.specs.Item.{Item, scalar, null, boolean, ushort, uint}
use Rattle.serde_amqp_item.specs.Canon.{◌>>=◌}
use Rattle.serde_amqp_de.specs.Reads.{At, Refuses, Took}
use Rattle.serde_amqp_de.specs.Takes.{uint_taken, ushort_taken, boolean_taken, option_taken, mapped, or_null, is_boolean, is_ushort, is_uint}

pub mapped_took : (f : Item → Item) (take : Item → Option Item) (k : Option ℕ) (old new : At) (y z : Item) → Took take k old new y → z ≡ f y → Took (mapped f take) k old new z
unfolding mapped
mapped_took f take k old new y z t e = record { item = t.item; reads = t.reads; taken = ap (λ (o : Option Item). o >>= λ v. Some (f v)) t.taken ∙ ap (λ (v : Item). Some v) (sym e) }

pub mapped_refuses : (f : Item → Item) (take : Item → Option Item) (k : Option ℕ) (old : At) → Refuses take k old → Refuses (mapped f take) k old
unfolding mapped
mapped_refuses f take k old r = record { none = λ x g more w e. ap (λ (o : Option Item). o >>= λ v. Some (f v)) (r.none x g more w e) }

same_number : (d : ℕ) → (d == d) ≡ true
same_number d = grind (arith, nat_tests)

pub uint_default : (d : ℕ) → or_null (is_uint d) (scalar (uint d)) ≡ scalar null
uint_default d = rw (same_number d) refl

pub ushort_default : (d : ℕ) → or_null (is_ushort d) (scalar (ushort d)) ≡ scalar null
ushort_default d = rw (same_number d) refl

pub boolean_default : (d : Bool) → or_null (is_boolean d) (scalar (boolean d)) ≡ scalar null
boolean_default true = refl
boolean_default false = refl

pub uint_absent : (d : ℕ) → mapped (or_null (is_uint d)) (option_taken uint_taken) (scalar null) ≡ Some (or_null (is_uint d) (scalar (uint d)))
unfolding mapped option_taken
uint_absent d = ap (λ (v : Item). Some v) (sym (uint_default d))

pub ushort_absent : (d : ℕ) → mapped (or_null (is_ushort d)) (option_taken ushort_taken) (scalar null) ≡ Some (or_null (is_ushort d) (scalar (ushort d)))
unfolding mapped option_taken
ushort_absent d = ap (λ (v : Item). Some v) (sym (ushort_default d))

pub boolean_absent : (d : Bool) → mapped (or_null (is_boolean d)) (option_taken boolean_taken) (scalar null) ≡ Some (or_null (is_boolean d) (scalar (boolean d)))
unfolding mapped option_taken
boolean_absent true = refl
boolean_absent false = refl

pub ruleset defaults = (mapped_took, mapped_refuses, uint_default, ushort_default, boolean_default, uint_absent, ushort_absent, boolean_absent)
