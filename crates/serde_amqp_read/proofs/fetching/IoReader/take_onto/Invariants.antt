use Rattle.std.proofs.Common.{◌≡◌, ◌+◌, ◌-◌, ◌++◌, length}
use Rattle.serde_amqp_read.specs.Fetching.{left_of}
use Rattle.serde_amqp_read.specs.Reads.{Leads}
use Rattle.serde_amqp_read.proofs.fetching.IoReader.take_onto.Given as goal

-- what was taken stands behind what stood there, and the rest is left
abbrev pub invariant-loop-missing : goal.invariant-loop-missing
invariant-loop-missing g l = record {
  split : l.bytes.items ++ left_of l.self ≡ l.initial.bytes.items ++ left_of l.initial.self;
  long : length l.bytes.items + l.missing ≡ length l.initial.bytes.items + l.count;
  kept : Leads l.initial.bytes.items l.bytes.items;
  uncounted : l.self.consumed ≡ l.initial.self.consumed;
  same : (l.self.failed ≡ l.initial.self.failed) × (l.self.fault ≡ l.initial.self.fault);
  ahead : length l.self.fetched ≡ length l.initial.self.fetched - (l.count - l.missing);
  piece : length l.piece ≡ 256;
}

abbrev pub decreases-loop-missing : goal.decreases-loop-missing
decreases-loop-missing g l = l.missing
