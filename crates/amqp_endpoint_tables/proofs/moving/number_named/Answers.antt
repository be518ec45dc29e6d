use Rattle.amqp_endpoint_tables.proofs.Naming.{named-apart}
use Rattle.amqp_endpoint_tables.proofs.moving.number_named.Goals as goal

pub returns-in-Some-clause-apart : goal.returns-in-Some-clause-apart
returns-in-Some-clause-apart g c = named-apart c.args.links.now.items c.args.numbers.now.entries c.requires.named

pub returns-in-None-clause-apart : goal.returns-in-None-clause-apart
returns-in-None-clause-apart g c = named-apart c.args.links.now.items c.args.numbers.now.entries c.requires.named
