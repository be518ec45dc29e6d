-- Nodes of a list, each with a value or without one.
use Rattle.std.specs.Prelude.{List, [], ◌∷◌, Option, Some, None}

module _ {U : Type 0} where
  -- the values that nodes hold, in order
  abbrev pub values_of : List (Option U) → List U
  values_of [] = []
  values_of (None ∷ nodes) = values_of nodes
  values_of (Some value ∷ nodes) = value ∷ values_of nodes

  -- each node holds a value
  abbrev pub HoldValues : List (Option U) → Type 0
  HoldValues [] = Unit {0}
  HoldValues (None ∷ nodes) = ⊥
  HoldValues (Some value ∷ nodes) = HoldValues nodes

  -- no node holds a value
  abbrev pub AreFree : List (Option U) → Type 0
  AreFree [] = Unit {0}
  AreFree (None ∷ nodes) = AreFree nodes
  AreFree (Some value ∷ nodes) = ⊥
