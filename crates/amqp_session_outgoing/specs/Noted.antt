-- How the distances of deliveries are gathered.
use Rattle.std.specs.Prelude.{◌≡◌, ◌⊎◌, ◌<◌, ℕ, IsTrue}
use Rattle.std.specs.BTreeSet.{BTreeSet, contains}
use Rattle.std.specs.Ordering.{nat_cmp}
use Rattle.amqp_session_outgoing.specs.Range.{ahead}

-- a number's distance is noted where it lies in the range, and nothing else
pub record Notes (first count number : ℕ) (old new : BTreeSet ℕ) : Type 0 where
  pub kept : (d : ℕ) → IsTrue (contains nat_cmp old d) → IsTrue (contains nat_cmp new d)
  pub noted : ahead number first < count → IsTrue (contains nat_cmp new (ahead number first))
  pub no_more : (d : ℕ) → IsTrue (contains nat_cmp new d)
      → (IsTrue (contains nat_cmp old d) ⊎ ((ahead number first < count) × (d ≡ ahead number first)))
