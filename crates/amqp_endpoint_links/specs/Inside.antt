-- How asked links are kept by their names.
use Rattle.std.specs.Prelude.{◌≡◌, ℕ, List, Some, None, if◌then◌else◌}
use Rattle.std.specs.FinMap as map
use Rattle.std.specs.Map.{lookup}
use Rattle.std.specs.Str.{bytes_eq}
use Rattle.amqp_endpoint_links.specs.declared.links.AskedLink.{AskedLink}
use Rattle.amqp_endpoint_links.specs.Asked.{Asked, HasName}

-- the handle of each asked link stands under its name, and nothing else does
pub record AreNamed (asked : Asked) (handles : List (List ℕ × ℕ)) : Type 0 where
  pub each : (handle : ℕ) (link : AskedLink) → map.get asked handle ≡ Some link
      → lookup (bytes_eq (link.attach).name) handles ≡ Some handle
  pub only : (name : List ℕ) (handle : ℕ) → lookup (bytes_eq name) handles ≡ Some handle → HasName asked handle name

-- a handle is put under a name
abbrev pub PutsUnder : List ℕ → ℕ → List (List ℕ × ℕ) → List (List ℕ × ℕ) → Type 0
PutsUnder name handle old new =
    (q : List ℕ) → lookup (bytes_eq q) new ≡ (if bytes_eq name q then Some handle else lookup (bytes_eq q) old)

-- what stands under a name is taken away
abbrev pub TakesAway : List ℕ → List (List ℕ × ℕ) → List (List ℕ × ℕ) → Type 0
TakesAway name old new =
    (q : List ℕ) → lookup (bytes_eq q) new ≡ (if bytes_eq name q then None else lookup (bytes_eq q) old)
