use Rattle.std.proofs.Common.{None}
use Rattle.serde_amqp_de.specs.Reads.{at_of}
use Rattle.serde_amqp_de.specs.Takes.{fields_taken}
use Rattle.serde_amqp_de.proofs.Several.{sized_took, sized_wrong}
use Rattle.serde_amqp_de.proofs.record.read_fields.Goals as goal

pub returns-then-pos-start-clause-refused : goal.returns-then-pos-start-clause-refused
returns-then-pos-start-clause-refused g c =
    sized_wrong (fields_taken g.F.ReadFields.takes) c.args.count c.args.size None (at_of g.R.Read.rest c.args.de.now) (at_of g.R.Read.rest c.read.new.de) (g.F.ReadFields.items c.in_ok-fields.fields) c.in_ok-fields.ensures.ok (rw (c.pos.ensures, c.pos-start.ensures) at c.if-pos-start.true)

pub returns-clause-ok : goal.returns-clause-ok
returns-clause-ok g c =
    sized_took (fields_taken g.F.ReadFields.takes) c.args.count c.args.size None (at_of g.R.Read.rest c.args.de.now) (at_of g.R.Read.rest c.read.new.de) (g.F.ReadFields.items c.in_ok-fields.fields) c.in_ok-fields.ensures.ok (rw (c.pos.ensures, c.pos-start.ensures) at c.if-pos-start.false)
