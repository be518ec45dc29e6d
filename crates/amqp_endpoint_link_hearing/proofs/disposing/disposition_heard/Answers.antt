use Rattle.amqp_endpoint_link_hearing.proofs.Dispositions.{none-ready, none-took}
use Rattle.amqp_endpoint_link_hearing.proofs.disposing.disposition_heard.Goals as goal

pub returns-in_default-clause-done : goal.returns-in_default-clause-done
returns-in_default-clause-done c =
    none-took c.args.limit c.args.talk.now c.args.out.now.items c.args.events.now.items c.args.took c.args.ready c.in_default.is

pub returns-in_default-ready-clause-done : goal.returns-in_default-ready-clause-done
returns-in_default-ready-clause-done c =
    none-ready c.args.limit c.args.talk.now c.args.out.now.items c.args.events.now.items c.args.took c.args.ready
    c.in_default-ready.is
