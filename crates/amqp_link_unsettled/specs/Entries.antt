-- The unsettled deliveries of a link: part 2, 2.6.12.
use Rattle.std.specs.Prelude.{ℕ, List, [], ◌∷◌, Option, Some, None}
use Rattle.std.specs.Map.{lookup, set_value}
use Rattle.std.specs.Str.{bytes_eq}

-- the deliveries by their tags, in the order in which they were registered, and for how many more there is room
pub record Kept (M : Type 0) : Type 0 where
  pub entries : List (List ℕ × M)
  pub room : ℕ

module _ {M : Type 0} where
  -- behind a tag and its value, where it has one
  abbrev pub unless_gone : List ℕ → Option M → List (List ℕ × M) → List (List ℕ × M)
  unless_gone tag None rest = rest
  unless_gone tag (Some m) rest = (tag, m) ∷ rest

  -- the tags that have a value
  abbrev pub live : List (List ℕ × Option M) → List (List ℕ × M)
  live [] = []
  live (e ∷ es) = unless_gone e.0 e.1 (live es)

  -- the deliveries, once what is kept of the one with a tag is changed, if there is one
  abbrev pub changed_at : (M → M) → List ℕ → List (List ℕ × M) → Option M → List (List ℕ × M)
  changed_at change tag entries None = entries
  changed_at change tag entries (Some m) = set_value (bytes_eq tag) entries (change m)

  abbrev pub changed : (M → M) → List ℕ → List (List ℕ × M) → List (List ℕ × M)
  changed change tag entries = changed_at change tag entries (lookup (bytes_eq tag) entries)
