use Rattle.std.proofs.Common.{◌≡◌, ℕ, ◌+◌, ◌≤◌, List, ◌++◌, take}
use Rattle.amqp_link_base.specs.Scans.{Scanned}
use Rattle.amqp_link_base.proofs.scan.Scan.seek.Given as goal

abbrev pub invariant-loop-byte : goal.invariant-loop-byte
invariant-loop-byte l = record {
  before : l.self.section ≤ l.number;
  size : l.self.size ≡ l.initial.self.size + l.byte-index;
  scanned : (xs : List ℕ) → Scanned l.initial.self xs → Scanned l.self (xs ++ take l.byte-index l.bytes);
}
