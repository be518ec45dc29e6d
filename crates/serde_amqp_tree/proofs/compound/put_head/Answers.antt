use Rattle.serde_amqp_tree.proofs.Puttings.{puts_wide}
use Rattle.serde_amqp_tree.proofs.compound.put_head.Goals as goal

pub returns : goal.returns
returns c =
    puts_wide c.args.inherited c.args.narrow c.args.wide c.args.count c.args.length c.args.text.now c.put_wide_head-2.new.text c.put.new.self
    c.if-inherited.false c.if-length-lt255.false c.in_ok-put_wide_head.ensures c.in_ok-put.ensures
