-- What lives, by the numbers that were given, which count from 0.
use Rattle.std.specs.Prelude.{◌≡◌, ℕ, zero, suc, ◌≤◌, List, [], ◌∷◌, ◌++◌, Option, Some, None, nat_eq, slice_get, slice_set}
use Rattle.std.specs.Map.{lookup}

pub record Slots (X : Type 0) : Type 0 where
  -- what lives at each number that was given
  pub items : List (Option X)
  -- how many more are sure to find room
  pub spare : ℕ

-- what lives, each with its number, in the order in which numbers and what lives are kept
abbrev pub beside : {U X : Type 0} → List (ℕ × U) → List X → List (ℕ × X)
beside [] items = []
beside (place ∷ places) [] = []
beside (place ∷ places) (item ∷ items) = (place.0, item) ∷ beside places items

module _ {X : Type 0} where
  -- what lives at each of so many numbers
  unfoldable pub spread : ℕ → List (ℕ × X) → List (Option X)
  spread zero live = []
  spread (suc next) live = spread next live ++ lookup (nat_eq next) live ∷ []

  abbrev pub flat : Option (Option X) → Option X
  flat None = None
  flat (Some slot) = slot

  -- what lives at a number
  abbrev pub living : List (Option X) → ℕ → Option X
  living items number = flat (slice_get items number)

  -- something else lives at a number
  abbrev pub with_slot : Slots X → ℕ → X → Slots X
  with_slot s number item = record s { items = slice_set s.items number (Some item) }

-- nothing lives at a number that wasn't given
pub record AreGiven {X : Type 0} (next : ℕ) (live : List (ℕ × X)) : Type 0 where
  pub past : (number : ℕ) → next ≤ number → lookup (nat_eq number) live ≡ None
