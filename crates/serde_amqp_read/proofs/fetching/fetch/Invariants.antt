use Rattle.std.proofs.Common.{◌≡◌, ◌-◌, ◌≤◌, ◌++◌, length, max}
use Rattle.serde_amqp_read.proofs.fetching.fetch.Given as goal

-- the bytes that are left stay the same
abbrev pub invariant-loop-piece : goal.invariant-loop-piece
invariant-loop-piece g l = record {
  within : length l.fetched.items ≤ max l.count (length l.initial.fetched.items);
  grown : length l.initial.fetched.items ≤ length l.fetched.items;
  same : l.fetched.items ++ g.S.InMemory.bytes l.source ≡ l.initial.fetched.items ++ g.S.InMemory.bytes l.initial.source;
  lasting : g.S.InMemory.fault l.source ≡ g.S.InMemory.fault l.initial.source;
}

abbrev pub decreases-loop-piece : goal.decreases-loop-piece
decreases-loop-piece g l = l.count - length l.fetched.items
