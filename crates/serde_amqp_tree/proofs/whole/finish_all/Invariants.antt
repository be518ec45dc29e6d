use Rattle.std.proofs.Common.{reverse}
use Rattle.serde_amqp_tree.specs.Tree.{Finishes}
use Rattle.serde_amqp_tree.proofs.whole.finish_all.Given as goal

abbrev pub invariant-loop-token : goal.invariant-loop-token
invariant-loop-token l = Finishes l.fn.bytes l.front (reverse l.fn.stack.items) (reverse l.stack.items) l.fn.text l.text
