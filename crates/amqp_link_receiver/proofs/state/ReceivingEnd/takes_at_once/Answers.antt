use Rattle.std.proofs.Common.{rules, arith, refl}
use Rattle.amqp_link_receiver.proofs.AtOnce.{taken_by_end}
use Rattle.amqp_link_receiver.proofs.state.ReceivingEnd.takes_at_once.Goals as goal

pub returns : goal.returns
returns c =
    rw (← c.self.view_is)
    (taken_by_end c.args.attachment _ _ c.args.transfer.now c.args.payload.now c.in-Some.number _ c.args.message
    (search rules)
    (search rules)
    c.in-Some-delivery_tag.is
    (search rules)
    (omega arith)
    (search rules)
    (search rules)
    (search rules))
