use Rattle.amqp_endpoint_links.proofs.Naming.{none-named}
use Rattle.amqp_endpoint_links.proofs.links.AskedLinks.new.Goals as goal

pub invariant_of-result : goal.invariant_of-result
invariant_of-result c = none-named c.new.result c.new-2.result.entries c.new.ensures c.new-2.ensures.empty
