-- A map as the list of its pairs: what each call makes of the list. No key stands in it twice.
use Rattle.std.specs.Prelude.{Bool, cond, List, [], ◌∷◌, ◌++◌, length, take, drop, is_some, if◌then◌else◌}
use Rattle.std.specs.List.{IsDistinct}
use Rattle.std.specs.Map.{keys_of, lookup, remove_entry, set_value}

-- the last of a list moved to its front
abbrev pub last_first : {X : Type 0} → List X → List X
last_first [] = []
last_first (x ∷ xs) = drop (length xs) (x ∷ xs) ++ take (length xs) (x ∷ xs)

-- `same` says which keys are equal
module _ {K V : Type 0} (same : K → K → Bool) where
  -- no two keys are equal
  abbrev pub KeysApart : List (K × V) → Type 0
  KeysApart ps = IsDistinct same (keys_of ps)

  -- with v at the key k: a key that is there keeps its place, and a new one goes to the end
  abbrev pub pairs_inserted : List (K × V) → K → V → List (K × V)
  pairs_inserted ps k v = if is_some (lookup (same k) ps) then set_value (same k) ps v else ps ++ (k, v) ∷ []

  -- with each of more inserted in turn
  abbrev pub all_inserted : List (K × V) → List (K × V) → List (K × V)
  all_inserted ps [] = ps
  all_inserted ps (p ∷ more) = all_inserted (pairs_inserted ps p.0 p.1) more

  -- without the key k; the others keep their order
  abbrev pub pairs_shifted : List (K × V) → K → List (K × V)
  pairs_shifted ps k = remove_entry (same k) ps

  -- without the key k, with the last pair in its place
  abbrev pub pairs_swapped : List (K × V) → K → List (K × V)
  pairs_swapped [] k = []
  pairs_swapped (p ∷ ps) k = cond (same k p.0) (last_first ps) (p ∷ pairs_swapped ps k)
