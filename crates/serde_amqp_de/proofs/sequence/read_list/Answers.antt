use Rattle.serde_amqp_de.proofs.Heads.{carried}
use Rattle.serde_amqp_de.proofs.Sequences.{list_took, list_refused, no_list}
use Rattle.serde_amqp_de.proofs.sequence.read_list.Goals as goal

pub returns-in_err-count-clause-refused : goal.returns-in_err-count-clause-refused
returns-in_err-count-clause-refused g c = carried g.R.Read.faulty _ c.in_err-count.field-0.0 _ _ c.from_residual.ensures.1 (no_list g.T.Deserialize.take _ _) c.in_err-count.ensures.refused

pub returns-in_err-values-clause-refused : goal.returns-in_err-values-clause-refused
returns-in_err-values-clause-refused g c = carried g.R.Read.faulty _ c.in_err-values.field-0.0 _ _ c.from_residual-in_err-values.ensures.1 (list_refused g.T.Deserialize.take _ _ _ _ _ c.in_ok-count.ensures.ok) (rw c.set_element.ensures at c.in_err-values.ensures.refused)

pub returns-clause-ok : goal.returns-clause-ok
returns-clause-ok g c =
    rw c.set_element-2.ensures (list_took g.T.Deserialize.take _ _ _ _ _ _ _ c.in_ok-count.ensures.ok (rw c.set_element.ensures at c.in_ok-values.ensures.ok))
