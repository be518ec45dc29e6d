use Rattle.serde_amqp_item.specs.Kind.{described_kind}
use Rattle.serde_amqp_de.proofs.Heads.{not_described, carried, no_head_refuses, refusal_as, wrong_described}
use Rattle.serde_amqp_de.proofs.Naming.{names_on, names_wrong}
use Rattle.serde_amqp_de.proofs.deserializer.Deserializer.described.Goals as goal

pub returns-in_err-code-clause-refused : goal.returns-in_err-code-clause-refused
returns-in_err-code-clause-refused g c = carried g.R.Read.faulty _ c.in_err-code.field-0.0 _ _ c.from_residual.ensures.1 (no_head_refuses _ _ _) c.in_err-code.ensures.refused

pub returns-in_err-code-clause-named : goal.returns-in_err-code-clause-named
returns-in_err-code-clause-named g c = names_on g.R.Read.faulty _ described_kind _ _ _ c.from_residual.ensures.1 (c.in_err-code.ensures.named described_kind)

pub returns-in-DescribedType-clause-ok : goal.returns-in-DescribedType-clause-ok
returns-in-DescribedType-clause-ok g c = rw c.set_element.ensures (rw c.in-DescribedType.is at c.in_ok-code.ensures.ok)

pub returns-in_default-clause-refused : goal.returns-in_default-clause-refused
returns-in_default-clause-refused g c = refusal_as g.R.Read.faulty _ _ _ c.refuse.ensures.same (wrong_described _ _ _ _ c.in_ok-code.ensures.ok c.in_default.not-DescribedType)

pub returns-in_default-clause-named : goal.returns-in_default-clause-named
returns-in_default-clause-named g c = names_wrong g.R.Read.faulty described_kind _ _ _ _ _ c.refuse.ensures.same c.in_ok-code.ensures.ok (not_described _ c.in_default.not-DescribedType)
