-- Fields of several values.
use Rattle.std.proofs.Common.{◌≡◌, List, [], ◌∷◌, length, map, true, false, refl, arith}
use Rattle.std.specs.Prelude.{◌==◌}
use Rattle.std.proofs.lemmas.Bool.Decides.{nat_tests}
use Rattle.serde_amqp_item.specs.Item.{Item, scalar, null, array, items_of}
use Rattle.serde_amqp_item.specs.Record.{is_null}
use Rattle.serde_amqp_de.specs.Takes.{several}

-- none is null, and several are an array
pub none_is_null : {X : Type 0} (f : X → Item) (xs : List X) → (length xs == 0) ≡ true → several (map f xs) ≡ scalar null
none_is_null f [] e = refl
none_is_null f (x ∷ xs) e = absurd (grind (arith, nat_tests))

pub several_are_array : {X : Type 0} (f : X → Item) (xs : List X) → (length xs == 0) ≡ false → several (map f xs) ≡ array (items_of (map f xs))
several_are_array f [] e = absurd cc
several_are_array f (x ∷ xs) e = refl

pub several_null : {X : Type 0} (f : X → Item) (xs : List X) → is_null (several (map f xs)) ≡ (length xs == 0)
several_null f [] = refl
several_null f (x ∷ xs) = grind (arith, nat_tests)

pub ruleset many = (none_is_null, several_are_array, several_null)
