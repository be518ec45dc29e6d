-- How often a tag stands in a list.
use Rattle.std.specs.Prelude.{ℕ, ◌+◌, Bool, true, false, List, [], ◌∷◌}
use Rattle.std.specs.Str.{bytes_eq}

abbrev pub once_if : Bool → ℕ
once_if true = 1
once_if false = 0

abbrev pub times : List ℕ → List (List ℕ) → ℕ
times tag [] = 0
times tag (t ∷ ts) = once_if (bytes_eq tag t) + times tag ts

-- among the tags of entries
abbrev pub times_in : {X : Type 0} → List ℕ → List (List ℕ × X) → ℕ
times_in tag [] = 0
times_in tag (e ∷ es) = once_if (bytes_eq tag e.0) + times_in tag es
