-- What a type makes of bytes is one value.
use Rattle.std.specs.Prelude.{◌≡◌, ℕ, List, [], ◌∷◌, Option, Some}
use Rattle.serde_amqp_item.specs.Item.{Item}
use Rattle.serde_amqp_item.specs.Wire.{Wire}

-- bytes that are wire forms of two items, as of a kept one and of what it keeps, give the same value
abbrev pub Decided : (Item → Option Item) → Type 0
Decided take =
    (x y : Item) (k : Option ℕ) (a : List ℕ) (u v : Item) → Wire x k a → Wire y k a → take x ≡ Some u → take y ≡ Some v
    → u ≡ v

abbrev pub AllDecided : List (Item → Option Item) → Type 0
AllDecided [] = Unit {0}
AllDecided (take ∷ takes) = Decided take × AllDecided takes
