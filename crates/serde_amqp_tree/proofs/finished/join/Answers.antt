use Rattle.std.proofs.Common.{reverse}
use Rattle.serde_amqp_tree.proofs.Joining.{taking_more}
use Rattle.serde_amqp_tree.proofs.finished.join.Goals as goal

pub loop-preserved : goal.loop-preserved
loop-preserved c =
    taking_more c.args.inherited c.loop.counter c.loop.lengths c.in_ok-lengths.lengths c.in_ok-value.value (reverse c.args.stack.now.items) (reverse c.loop.stack.items) (reverse c.pop.new.stack.items)
    c.loop.invariant c.in_ok-value.ensures.first c.in_ok-value.ensures.inherits c.in_ok-lengths.ensures.bytes c.in_ok-lengths.ensures.text
