use Rattle.serde_amqp_de.proofs.Heads.{carried}
use Rattle.serde_amqp_de.proofs.Several.{took_field, first_refused, others_refused}
use Rattle.serde_amqp_de.proofs.record.Tuple2ReadFields.read.Goals as goal

pub returns-in_err-first-clause-refused : goal.returns-in_err-first-clause-refused
returns-in_err-first-clause-refused g c = carried g.R.Read.faulty _ c.in_err-first.field-0.0 _ _ c.from_residual.ensures.1 (λ r. first_refused g.H.Deserialize.take g.T.ReadFields.takes c.args.count _ _ r c.if-count-eq0.false) (rw c.requires at c.in_err-first.ensures.refused)

pub returns-in_err-others-clause-refused : goal.returns-in_err-others-clause-refused
returns-in_err-others-clause-refused g c = carried g.R.Read.faulty _ c.in_err-others.field-0.0 _ _ c.from_residual-in_err-others.ensures.1 (λ r. others_refused g.H.Deserialize.take g.T.ReadFields.takes c.args.count _ _ _ _ (rw c.requires at c.in_ok-first.ensures.ok) r c.if-count-eq0.false) c.in_err-others.ensures.refused

pub returns-clause-ok : goal.returns-clause-ok
returns-clause-ok g c = took_field g.H.Deserialize.take g.T.ReadFields.takes c.args.count _ _ _ _ _ _ (rw c.requires at c.in_ok-first.ensures.ok) c.in_ok-others.ensures.ok c.if-count-eq0.false
