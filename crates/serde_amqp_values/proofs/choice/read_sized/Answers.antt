use Rattle.serde_amqp_de.proofs.Several.{sized_took, sized_wrong}
use Rattle.serde_amqp_values.proofs.choice.read_sized.Goals as goal

pub returns-then-pos-start-clause-refused : goal.returns-then-pos-start-clause-refused
returns-then-pos-start-clause-refused g c = search (sized_wrong, c.in_ok-fields.ensures.ok, (rw (c.pos.ensures, c.pos-start.ensures) at c.if-pos-start.true))

pub returns-clause-ok : goal.returns-clause-ok
returns-clause-ok g c = search (sized_took, c.in_ok-fields.ensures.ok, (rw (c.pos.ensures, c.pos-start.ensures) at c.if-pos-start.false))
