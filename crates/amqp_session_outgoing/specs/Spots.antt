-- At which spots the queues stand of the links that wait.
use Rattle.std.specs.Prelude.{◌≡◌, ℕ, ◌+◌, ◌==◌, List, [], ◌∷◌, Option, Some, nat_eq, is_some, if◌then◌else◌}
use Rattle.std.specs.Map.{lookup}
use Rattle.std.specs.HashMap.{spare}
use Rattle.amqp_session_outgoing.specs.declared.spots.Spots.{Spots}

-- the spot that is noted for the link with a handle
abbrev pub spot_of : Spots → ℕ → Option ℕ
spot_of s handle = lookup (nat_eq handle) s.noted.entries

-- for how many links more a spot can be noted
abbrev pub notes_left : Spots → ℕ
notes_left s = spare s.noted

-- how often a spot stands in the turn
abbrev pub times : ℕ → List ℕ → ℕ
times spot [] = 0
times spot (first ∷ turn) = (if first == spot then 1 else 0) + times spot turn

-- each spot at which a link's queue stands is in the turn once, and no other spot is. Of each such link the spot is
-- noted, and of no other link
pub record AreNoted (handle_at : ℕ → Option ℕ) (turn : List ℕ) (noted : ℕ → Option ℕ) : Type 0 where
  pub once : (spot : ℕ) → times spot turn ≡ (if is_some (handle_at spot) then 1 else 0)
  pub each : (spot handle : ℕ) → handle_at spot ≡ Some handle → noted handle ≡ Some spot
  pub only : (spot handle : ℕ) → noted handle ≡ Some spot → handle_at spot ≡ Some handle
