-- The links of a session, one by one.
use Rattle.std.proofs.Common.{◌≡◌, ℕ, ◌+◌, List, [], ◌∷◌, Option, Some, None, map, refl, ap}
use Rattle.slab.specs.Slab.{entries_from}
use Rattle.amqp_session_core.specs.State.{links_in}

-- the values of a slab's entries are the links
pub links-entries : {R : Type 0} (key : ℕ) (slots : List (Option R)) → map (λ e. e.1) (entries_from key slots) ≡ links_in slots
links-entries key [] = refl
links-entries key (None ∷ rest) = links-entries (key + 1) rest
links-entries {R} key (Some link ∷ rest) = ap (λ (links : List R). link ∷ links) (links-entries (key + 1) rest)
