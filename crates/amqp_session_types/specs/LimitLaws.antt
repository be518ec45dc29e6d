-- Of a type with a restricted source bytes give one value, and what is meant is taken as it is.
use Rattle.std.proofs.Common.{◌≡◌, Bool, true, false, Option, Some, None, ◌∙◌, ap}
use Rattle.std.specs.Prelude.{if◌then◌else◌}
use Rattle.serde_amqp_item.specs.Item.{Item}
use Rattle.serde_amqp_item.specs.Canon.{◌>>=◌}
use Rattle.serde_amqp_de.specs.Decides.{Decided}
use Rattle.amqp_session_types.specs.Limits.{limited}

from_if : (b : Bool) (y u : Item) → (if b then Some y else None) ≡ Some u → Some y ≡ Some u
from_if true y u e = e
from_if false y u e = absurd cc

-- what is taken is what the primitive type takes
limited_from : (meant : Item → Bool) (o : Option Item) (u : Item)
    → (o >>= λ y. if meant y then Some y else None) ≡ Some u → o ≡ Some u
limited_from meant None u e = absurd cc
limited_from meant (Some y) u e = from_if (meant y) y u e

pub limited_decided : (meant : Item → Bool) (take : Item → Option Item) → Decided take → Decided (limited meant take)
unfolding limited
limited_decided meant take d x y k a u v g h e f =
    d x y k a u v g h (limited_from meant (take x) u e) (limited_from meant (take y) v f)

pub limited_again : (meant : Item → Bool) (take : Item → Option Item) (y : Item) → take y ≡ Some y → meant y ≡ true
    → limited meant take y ≡ Some y
unfolding limited
limited_again meant take y again m =
    ap (λ (o : Option Item). o >>= λ z. if meant z then Some z else None) again ∙ ap
    (λ (b : Bool). if b then Some y else None) m
