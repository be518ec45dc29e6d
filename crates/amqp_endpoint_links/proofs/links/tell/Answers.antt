use Rattle.amqp_endpoint_links.proofs.Naming.{flow-named}
use Rattle.amqp_endpoint_links.proofs.links.tell.Goals as goal

pub returns-clause-named : goal.returns-clause-named
returns-clause-named c =
    flow-named c.args.links.now c.args.handles.now.entries c.requires.named (c.args.flow.handle).0 c.args.flow c.keep_flow.new.self c.requires.there c.keep_flow.ensures
