use Rattle.serde_amqp_de.proofs.Heads.{carried}
use Rattle.serde_amqp_de.proofs.Pairs.{map_took, map_refused, no_map}
use Rattle.serde_amqp_de.proofs.map.read_map.Goals as goal

pub returns-in_err-count-clause-refused : goal.returns-in_err-count-clause-refused
returns-in_err-count-clause-refused g c = carried g.R.Read.faulty _ c.in_err-count.field-0.0 _ _ c.from_residual.ensures.1 (no_map g.K.Deserialize.take g.V.Deserialize.take _ _) c.in_err-count.ensures.refused

pub returns-in_err-pairs-clause-refused : goal.returns-in_err-pairs-clause-refused
returns-in_err-pairs-clause-refused g c = carried g.R.Read.faulty _ c.in_err-pairs.field-0.0 _ _ c.from_residual-in_err-pairs.ensures.1 (map_refused g.K.Deserialize.take g.V.Deserialize.take _ _ _ _ _ c.in_ok-count.ensures.ok c.in_ok-count.ensures.even) (rw c.set_element.ensures at c.in_err-pairs.ensures.refused)

pub returns-clause-ok : goal.returns-clause-ok
returns-clause-ok g c =
    rw c.set_element-2.ensures (map_took g.K.Deserialize.take g.V.Deserialize.take _ _ _ _ _ _ _ c.in_ok-count.ensures.ok c.in_ok-count.ensures.even (rw c.set_element.ensures at c.in_ok-pairs.ensures.ok))
