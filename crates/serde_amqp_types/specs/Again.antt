-- An array's item is taken as that array, and a default is one value.
use Rattle.std.proofs.Common.{◌≡◌, ℕ, List, map, true, Option, Some, sym, ◌∙◌, ap, refl}
use Rattle.std.proofs.lemmas.Bool.Decides.{Decides-eqb}
use Rattle.serde_amqp_item.specs.Item.{Item, scalar, ubyte, array, items_of}
use Rattle.serde_amqp_de.specs.Again.{elements_again}
use Rattle.serde_amqp_types.specs.Takes.{array_or_one_taken, is_ubyte}
use Rattle.serde_amqp_types.specs.Deciding.{elements_same}

pub array_again : {X : Type 0} (take : Item → Option Item) (item : X → Item) → ((x : X) → take (item x) ≡ Some (item x))
    → (xs : List X) → array_or_one_taken take (array (items_of (map item xs))) ≡ Some (array (items_of (map item xs)))
array_again take item again xs =
    elements_same take (array (items_of (map item xs))) refl ∙ elements_again take item again xs

pub one_ubyte : (d m n : ℕ) → is_ubyte d (scalar (ubyte m)) ≡ true → is_ubyte d (scalar (ubyte n)) ≡ true
    → scalar (ubyte m) ≡ scalar (ubyte n)
one_ubyte d m n e f = ap (λ (i : ℕ). scalar (ubyte i)) ((Decides-eqb m d).0 e ∙ sym ((Decides-eqb n d).0 f))
