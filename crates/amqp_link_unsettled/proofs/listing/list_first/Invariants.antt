use Rattle.std.proofs.Common.{◌≡◌, ℕ, ◌<◌, ◌≤◌, length}
use Rattle.amqp_link_unsettled.specs.Listing.{halved, with_first, FitsFrame}
use Rattle.amqp_link_unsettled.proofs.listing.list_first.Given as goal

abbrev pub invariant-loop-limit : goal.invariant-loop-limit
invariant-loop-limit l = record {
  within : l.count ≤ length l.fn.list;
  now : l.attach ≡ with_first l.fn.attach l.fn.list l.count;
  halved : (k : ℕ) × (l.count ≡ halved (length l.fn.list) k) × ((j : ℕ) → j < k → FitsFrame l.limit (with_first l.fn.attach l.fn.list (halved (length l.fn.list) j)) → ⊥);
}

abbrev pub decreases-loop-limit : goal.decreases-loop-limit
decreases-loop-limit l = l.count
