-- Fields whose type has a default.
use Rattle.std.proofs.Common.{◌≡◌, ℕ, Bool, true, false, Option, Some, sym, ◌∙◌, ap, refl}
use Rattle.std.specs.Prelude.{if◌then◌else◌}
use Rattle.serde_amqp_item.specs.Item.{Item, scalar, null}
use Rattle.serde_amqp_de.specs.Takes.{option_taken, mapped, or_null}
use Rattle.serde_amqp_de.specs.Reads.{At, Took}
use Rattle.serde_amqp_de.proofs.Standard.{mapped_took, mapped_refuses}

-- a default is null
pub default_null : (is_default : Item → Bool) (y : Item) → is_default y ≡ true → or_null is_default y ≡ scalar null
default_null is_default y e = ap (λ (b : Bool). if b then scalar null else y) e

null_either : (b : Bool) → (if b then scalar null else scalar null) ≡ scalar null
null_either true = refl
null_either false = refl

-- null is taken as the default
pub default_absent : (is_default : Item → Bool) (take : Item → Option Item) (y : Item) → is_default y ≡ true → mapped (or_null is_default) (option_taken take) (scalar null) ≡ Some (or_null is_default y)
unfolding mapped option_taken
default_absent is_default take y e = ap (λ (v : Item). Some v) (null_either (is_default (scalar null)) ∙ sym (default_null is_default y e))

-- null was read as the default
pub default_took : (is_default : Item → Bool) (take : Item → Option Item) (k : Option ℕ) (old new : At) (y : Item) → Took (option_taken take) k old new (scalar null) → is_default y ≡ true → Took (mapped (or_null is_default) (option_taken take)) k old new (or_null is_default y)
default_took is_default take k old new y t e = mapped_took (or_null is_default) (option_taken take) k old new (scalar null) (or_null is_default y) t (default_null is_default y e ∙ sym (null_either (is_default (scalar null))))

-- another value was read as itself
pub value_took : (is_default : Item → Bool) (take : Item → Option Item) (k : Option ℕ) (old new : At) (y : Item) → Took (option_taken take) k old new y → Took (mapped (or_null is_default) (option_taken take)) k old new (or_null is_default y)
value_took is_default take k old new y t = mapped_took (or_null is_default) (option_taken take) k old new y (or_null is_default y) t refl

pub ruleset defaults = (default_absent, default_took, value_took, mapped_refuses)
