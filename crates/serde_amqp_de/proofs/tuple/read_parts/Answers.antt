use Rattle.serde_amqp_de.proofs.Heads.{carried}
use Rattle.serde_amqp_de.proofs.Tuples.{miscounted, tuple_took, tuple_refused, no_tuple}
use Rattle.serde_amqp_de.proofs.tuple.read_parts.Goals as goal

pub returns-in_err-count-clause-refused : goal.returns-in_err-count-clause-refused
returns-in_err-count-clause-refused g c = carried g.R.Read.faulty _ c.in_err-count.field-0.0 _ _ c.from_residual.ensures.1 (no_tuple g.P.ReadParts.takes _ _) c.in_err-count.ensures.refused

pub returns-then-count-parts-clause-refused : goal.returns-then-count-parts-clause-refused
returns-then-count-parts-clause-refused g c = miscounted g.P.ReadParts.takes _ _ _ _ _ _ c.in_ok-count.ensures.ok c.if-count-parts.true c.requires

pub returns-in_err-values-clause-refused : goal.returns-in_err-values-clause-refused
returns-in_err-values-clause-refused g c = carried g.R.Read.faulty _ c.in_err-values.field-0.0 _ _ c.from_residual-in_err-values.ensures.1 (tuple_refused g.P.ReadParts.takes _ _ _ _ _ _ c.in_ok-count.ensures.ok c.if-count-parts.false c.requires) (rw c.set_element.ensures at c.in_err-values.ensures.refused)

pub returns-clause-ok : goal.returns-clause-ok
returns-clause-ok g c =
    rw c.set_element-2.ensures (tuple_took g.P.ReadParts.takes _ _ _ _ _ _ _ _ c.in_ok-count.ensures.ok c.if-count-parts.false c.requires (rw c.set_element.ensures at c.in_ok-values.ensures.ok))
