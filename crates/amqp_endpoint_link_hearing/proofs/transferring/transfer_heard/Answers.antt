use Rattle.amqp_endpoint_link_hearing.proofs.Transferred.{taken-in-none, taken-in-session}
use Rattle.amqp_endpoint_link_hearing.proofs.transferring.transfer_heard.Goals as goal

pub returns-in_default-clause-ok : goal.returns-in_default-clause-ok
returns-in_default-clause-ok c =
    taken-in-none c.args.took c.in_default.is c.args.given.now c.args.talk.now c.args.handle.0 c.args.out.now.items
    c.args.events.now.items

pub returns-clause-ok : goal.returns-clause-ok
returns-clause-ok c =
    taken-in-session c.args.took c.in-Some.it c.in-Some.is c.taken_by_link.result c.args.given.now c.args.talk.now
    c.args.handle.0 c.taken_by_link.new.talk c.taken_by_link.new.given c.args.out.now.items
    c.taken_by_link.new.out.items c.args.events.now.items c.taken_by_link.new.events.items
    c.taken_by_link.ensures.ok
