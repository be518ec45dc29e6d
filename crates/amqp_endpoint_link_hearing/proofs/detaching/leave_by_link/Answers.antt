use Rattle.amqp_endpoint_link_hearing.proofs.Leavings.{link-left}
use Rattle.amqp_endpoint_link_hearing.proofs.Takes.{numbered}
use Rattle.amqp_endpoint_link_hearing.proofs.detaching.leave_by_link.Goals as goal

pub returns-clause-leaves : goal.returns-clause-leaves
returns-clause-leaves c =
    link-left c.args.talk.now c.args.session c.args.ready c.number_of-link.result
    (numbered c.args.talk.now c.args.session c.args.ready.handle c.number_of-link.result c.requires.there
    c.number_of-link.ensures)
    c.args.told c.part-left.result c.part-left.new.talk c.args.links.now c.leave.new.links c.args.out.now.items
    c.part-left.new.out.items c.args.events.now.items c.tell_detached.new.events.items c.part-left.new.events.items
    c.part-left.ensures.parted c.leave.ensures c.tell_detached.ensures.told
    (c.part-left.ensures.told c.args.ready.error c.requires.copied)
