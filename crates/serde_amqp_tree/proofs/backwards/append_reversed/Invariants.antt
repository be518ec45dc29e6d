use Rattle.std.proofs.Common.{◌≡◌, ◌++◌}
use Rattle.serde_amqp_tree.proofs.backwards.append_reversed.Given as goal

abbrev pub invariant-loop-byte : goal.invariant-loop-byte
invariant-loop-byte l = l.bytes.items ≡ l.fn.bytes.items ++ l.yielded
