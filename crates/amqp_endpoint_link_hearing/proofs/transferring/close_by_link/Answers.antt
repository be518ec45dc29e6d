use Rattle.amqp_endpoint_link_hearing.proofs.Takes.{numbered}
use Rattle.amqp_endpoint_link_hearing.proofs.Transferred.{closed-by}
use Rattle.amqp_endpoint_link_hearing.proofs.transferring.close_by_link.Goals as goal

pub returns-clause-closed : goal.returns-clause-closed
returns-clause-closed c =
    closed-by c.args.talk.now c.args.session c.args.handle c.number_of-link.result
    (numbered c.args.talk.now c.args.session c.args.handle c.number_of-link.result c.requires.there
    c.number_of-link.ensures)
    c.args.answer.error c.args.error c.close.new.talk c.args.out.now.items c.close.new.out.items
    c.args.events.now.items c.tell_fault.new.events.items c.close.ensures.closed c.tell_fault.ensures
