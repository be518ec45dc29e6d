use Rattle.std.proofs.Common.{arith}
use Rattle.amqp_endpoint_attached.proofs.Credited.{credit_given}
use Rattle.amqp_endpoint_attached.proofs.receiving.grant.Goals as goal

pub returns-clause-answer : goal.returns-clause-answer
returns-clause-answer c =
    credit_given c.args.session.now c.args.handle c.args.credit c.give_in-left.result c.give_in-left.new.session
    c.send_flow.new.session c.args.out.now.items c.room_for_frame.new.out.items c.send_flow.new.out.items
    (omega arith) c.give_in-left.ensures.gives c.in-Ok.ensures.same c.send_flow.ensures.sent
