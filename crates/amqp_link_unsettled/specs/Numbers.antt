-- The numbers that deliveries bear, and how a delivery is found by its own.
use Rattle.std.specs.Prelude.{ℕ, ◌==◌, Bool, false, List, [], ◌∷◌, Option, Some, None, if◌then◌else◌}

-- whether it is this number
abbrev pub is_number : ℕ → Option ℕ → Bool
is_number number None = false
is_number number (Some own) = own == number

module _ {M : Type 0} (number_of : M → Option ℕ) where
  -- the number of what is kept
  abbrev pub kept_number : Option M → Option ℕ
  kept_number None = None
  kept_number (Some m) = number_of m

  -- the tag of the first delivery that bears this number
  abbrev pub tag_with : ℕ → List (List ℕ × M) → Option (List ℕ)
  tag_with number [] = None
  tag_with number (e ∷ es) = if is_number number (number_of e.1) then Some e.0 else tag_with number es
