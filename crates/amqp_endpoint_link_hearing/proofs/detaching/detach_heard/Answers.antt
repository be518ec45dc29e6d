use Rattle.amqp_endpoint_link_hearing.proofs.Readies.{none-ready, none-took}
use Rattle.amqp_endpoint_link_hearing.proofs.detaching.detach_heard.Goals as goal

pub returns-in_default-clause-leaves : goal.returns-in_default-clause-leaves
returns-in_default-clause-leaves c =
    none-took c.args.talk.now c.args.links.now c.args.out.now.items c.args.events.now.items c.args.took c.args.ready
    c.in_default.is

pub returns-in_default-ready-clause-leaves : goal.returns-in_default-ready-clause-leaves
returns-in_default-ready-clause-leaves c =
    none-ready c.args.talk.now c.args.links.now c.args.out.now.items c.args.events.now.items c.args.took c.args.ready
    c.in_default-ready.is
