use Rattle.std.proofs.Common.{None, length}
use Rattle.serde_amqp_de.specs.Reads.{at_of}
use Rattle.serde_amqp_de.specs.Takes.{row_taken}
use Rattle.serde_amqp_de.proofs.Several.{sized_took}
use Rattle.serde_amqp_de.proofs.tuple.read_sized_parts.Goals as goal

pub returns-clause-ok : goal.returns-clause-ok
returns-clause-ok g c =
    sized_took (row_taken g.P.ReadParts.takes) (length g.P.ReadParts.takes) c.args.size None (at_of g.R.Read.rest c.args.de.now) (at_of g.R.Read.rest c.read.new.de) (g.P.ReadParts.items c.in_ok-parts.parts) c.in_ok-parts.ensures.ok (rw (c.pos.ensures, c.pos-start.ensures) at c.if-pos-start.false)
