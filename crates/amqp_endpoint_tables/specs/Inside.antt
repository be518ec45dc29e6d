-- How links are found by their names.
use Rattle.std.specs.Prelude.{◌≡◌, ℕ, List, Option, Some, None, if◌then◌else◌}
use Rattle.std.specs.Map.{lookup}
use Rattle.std.specs.Str.{bytes_eq}
use Rattle.amqp_endpoint_tables.specs.declared.link_place.Named.{Named}
use Rattle.amqp_endpoint_tables.specs.LinkState.{name_in}

-- the number of each link that isn't closed stands under its name, and nothing else does
pub record AreNamed {L : Type 0} (links : List (Option (Named L))) (numbers : List (List ℕ × ℕ)) : Type 0 where
  pub each : (name : List ℕ) (number : ℕ) → name_in links number ≡ Some name
      → lookup (bytes_eq name) numbers ≡ Some number
  pub only : (name : List ℕ) (number : ℕ) → lookup (bytes_eq name) numbers ≡ Some number
      → name_in links number ≡ Some name

-- a number is put under a name
abbrev pub PutsUnder : List ℕ → ℕ → List (List ℕ × ℕ) → List (List ℕ × ℕ) → Type 0
PutsUnder name number old new =
    (q : List ℕ) → lookup (bytes_eq q) new ≡ (if bytes_eq name q then Some number else lookup (bytes_eq q) old)

-- what stands under a name is taken away
abbrev pub TakesAway : List ℕ → List (List ℕ × ℕ) → List (List ℕ × ℕ) → Type 0
TakesAway name old new =
    (q : List ℕ) → lookup (bytes_eq q) new ≡ (if bytes_eq name q then None else lookup (bytes_eq q) old)
