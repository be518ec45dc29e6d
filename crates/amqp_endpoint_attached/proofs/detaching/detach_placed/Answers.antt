use Rattle.amqp_endpoint_attached.proofs.Detached.{detach_given}
use Rattle.amqp_endpoint_attached.proofs.detaching.detach_placed.Goals as goal

pub returns-clause-given : goal.returns-clause-given
returns-clause-given c =
    detach_given c.args.session.now c.args.handle c.args.closed c.args.error c.detach_in.new.session
    c.send_detach.new.session c.own_detach-detach.result c.args.out.now.items
    c.send_detach.new.out.items c.detach_in.ensures.detaches c.own_detach-detach.ensures
    c.send_detach.ensures.sent
