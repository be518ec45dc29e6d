use Rattle.std.proofs.Common.{map}
use Rattle.serde_amqp_de.specs.Reads.{at_of}
use Rattle.serde_amqp_de.specs.Takes.{each_taken}
use Rattle.serde_amqp_de.proofs.Several.{sized_took, sized_wrong}
use Rattle.serde_amqp_de.proofs.sequence.read_sized.Goals as goal

pub returns-then-pos-start-clause-refused : goal.returns-then-pos-start-clause-refused
returns-then-pos-start-clause-refused g c =
    sized_wrong (each_taken g.T.Deserialize.take) c.args.count c.args.size c.args.de.now.element (at_of g.R.Read.rest c.args.de.now) (at_of g.R.Read.rest c.read_items.new.de) (map g.T.Deserialize.item c.in_ok-values.values.items) c.in_ok-values.ensures.ok (rw (c.pos.ensures, c.pos-start.ensures) at c.if-pos-start.true)

pub returns-clause-ok : goal.returns-clause-ok
returns-clause-ok g c =
    sized_took (each_taken g.T.Deserialize.take) c.args.count c.args.size c.args.de.now.element (at_of g.R.Read.rest c.args.de.now) (at_of g.R.Read.rest c.read_items.new.de) (map g.T.Deserialize.item c.in_ok-values.values.items) c.in_ok-values.ensures.ok (rw (c.pos.ensures, c.pos-start.ensures) at c.if-pos-start.false)
