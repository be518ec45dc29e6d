use Rattle.amqp_endpoint_attached.proofs.Credited.{drain_wanted}
use Rattle.amqp_endpoint_attached.proofs.receiving.drain.Goals as goal

pub returns-clause-answer : goal.returns-clause-answer
returns-clause-answer c =
    drain_wanted c.args.session.now c.args.handle c.drain_in-flow.result c.drain_in-flow.new.session
    c.send_flow.new.session
    c.args.out.now.items c.room_for_frame.new.out.items c.send_flow.new.out.items c.drain_in-flow.ensures.drains
    c.in-Ok.ensures.same c.send_flow.ensures.sent
