-- Ubyte fields that have a default.
use Rattle.std.proofs.Common.{◌≡◌, ℕ, true, Some, sym, ap, refl, arith}
use Rattle.std.specs.Prelude.{◌==◌}
use Rattle.std.proofs.lemmas.Bool.Decides.{nat_tests}
use Rattle.serde_amqp_item.specs.Item.{Item, scalar, null, ubyte}
use Rattle.serde_amqp_de.specs.Takes.{ubyte_taken, option_taken, mapped, or_null}
use Rattle.serde_amqp_types.specs.Takes.{is_ubyte}

pub ubyte_default : (d : ℕ) → or_null (is_ubyte d) (scalar (ubyte d)) ≡ scalar null
ubyte_default d = let same : (d == d) ≡ true = grind (arith, nat_tests) in rw same refl

pub ubyte_absent : (d : ℕ) → mapped (or_null (is_ubyte d)) (option_taken ubyte_taken) (scalar null) ≡ Some (or_null (is_ubyte d) (scalar (ubyte d)))
unfolding mapped option_taken
ubyte_absent d = ap (λ (v : Item). Some v) (sym (ubyte_default d))

pub ruleset ubytes = (ubyte_default, ubyte_absent)
