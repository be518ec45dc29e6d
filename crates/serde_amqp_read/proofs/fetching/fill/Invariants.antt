use Rattle.std.proofs.Common.{◌≡◌, ◌-◌, ◌≤◌, ◌++◌, length, take}
use Rattle.serde_amqp_read.proofs.fetching.fill.Given as goal

-- what was filled, and then the bytes of the reader
abbrev pub invariant-loop-at : goal.invariant-loop-at
invariant-loop-at g l = record {
  long : length l.buffer ≡ length l.initial.buffer;
  within : l.at ≤ length l.buffer;
  split : g.S.InMemory.bytes l.initial.source ≡ take l.at l.buffer ++ g.S.InMemory.bytes l.source;
  lasting : g.S.InMemory.fault l.source ≡ g.S.InMemory.fault l.initial.source;
}

abbrev pub decreases-loop-at : goal.decreases-loop-at
decreases-loop-at g l = length l.initial.buffer - l.at
