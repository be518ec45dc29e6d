use Rattle.serde_amqp_item.specs.Kind.{null_kind}
use Rattle.serde_amqp_de.proofs.Heads.{carried, no_head_refuses, refusal_as}
use Rattle.serde_amqp_de.proofs.Scalars.{not_null, null_read, wrong_null}
use Rattle.serde_amqp_de.proofs.Naming.{names_on, names_wrong}
use Rattle.serde_amqp_de.proofs.deserializer.Deserializer.deserialize_unit.Goals as goal

pub returns-in_err-code-clause-refused : goal.returns-in_err-code-clause-refused
returns-in_err-code-clause-refused g c = carried g.R.Read.faulty _ c.in_err-code.field-0.0 _ _ c.from_residual.ensures.1 (no_head_refuses _ _ _) c.in_err-code.ensures.refused

pub returns-in_err-code-clause-named : goal.returns-in_err-code-clause-named
returns-in_err-code-clause-named g c = names_on g.R.Read.faulty _ null_kind _ _ _ c.from_residual.ensures.1 (c.in_err-code.ensures.named null_kind)

pub returns-in-Null-clause-ok : goal.returns-in-Null-clause-ok
returns-in-Null-clause-ok g c = null_read _ _ _ (rw c.in-Null.is at c.in_ok-code.ensures.ok)

pub returns-in_default-clause-refused : goal.returns-in_default-clause-refused
returns-in_default-clause-refused g c = refusal_as g.R.Read.faulty _ _ _ c.refuse.ensures.same (wrong_null _ _ _ _ c.in_ok-code.ensures.ok c.in_default.not-Null)

pub returns-in_default-clause-named : goal.returns-in_default-clause-named
returns-in_default-clause-named g c = names_wrong g.R.Read.faulty null_kind _ _ _ _ _ c.refuse.ensures.same c.in_ok-code.ensures.ok (not_null _ c.in_default.not-Null)
