use Rattle.std.proofs.Common.{◌≡◌, ℕ, ◌≤◌, Option, length}
use Rattle.indexmap.specs.IndexMap.{spare}
use Rattle.amqp_link_unsettled.specs.Rising.{InOrder, standing}
use Rattle.amqp_link_unsettled.proofs.map.pop_live.Given as goal

abbrev pub invariant-loop-tag : goal.invariant-loop-tag
invariant-loop-tag g l = record {
  same : standing l.initial.slots.entries ≡ standing l.slots.entries;
  order : (b : Option ℕ) → InOrder g.M.Numbered.number_of b l.initial.slots.entries → InOrder g.M.Numbered.number_of b l.slots.entries;
  room : spare l.initial.slots ≤ spare l.slots;
}

abbrev pub decreases-loop-tag : goal.decreases-loop-tag
decreases-loop-tag g l = length l.slots.entries
