use Rattle.std.proofs.Common.{reverse}
use Rattle.serde_amqp_tree.proofs.Joining.{Taking}
use Rattle.serde_amqp_tree.proofs.finished.join.Given as goal

abbrev pub invariant-loop : goal.invariant-loop
invariant-loop l = Taking l.fn.inherited l.counter l.lengths (reverse l.fn.stack.items) (reverse l.stack.items)
