use Rattle.std.proofs.Common.{refl, rules}
use Rattle.serde_amqp_item.specs.declared.codes.EncodingCodes.TheVariants.{UShort}
use Rattle.serde_amqp_item.specs.Kind.{ushort_kind}
use Rattle.serde_amqp_de.proofs.Heads.{carried, no_head_refuses, refusal_as}
use Rattle.serde_amqp_de.proofs.Scalars.{not_ushort, ushort_wide, no_ushort, wrong_ushort}
use Rattle.serde_amqp_de.proofs.Naming.{names_few, names_on, names_wrong}
use Rattle.serde_amqp_de.proofs.deserializer.Deserializer.deserialize_u16.Goals as goal

pub returns-in_err-code-clause-refused : goal.returns-in_err-code-clause-refused
returns-in_err-code-clause-refused g c = carried g.R.Read.faulty _ c.in_err-code.field-0.0 _ _ c.from_residual.ensures.1 (no_head_refuses _ _ _) c.in_err-code.ensures.refused

pub returns-in_err-code-clause-named : goal.returns-in_err-code-clause-named
returns-in_err-code-clause-named g c = names_on g.R.Read.faulty _ ushort_kind _ _ _ c.from_residual.ensures.1 (c.in_err-code.ensures.named ushort_kind)

pub returns-in_err-next_u16-in-UShort-clause-refused :
    goal.returns-in_err-next_u16-in-UShort-clause-refused
returns-in_err-next_u16-in-UShort-clause-refused g c = carried g.R.Read.faulty _ c.in_err-next_u16-in-UShort.field-0.0 _ _ c.from_residual-in_err-next_u16-in-UShort.ensures.1 (no_ushort _ _ _ (rw c.in-UShort.is at c.in_ok-code.ensures.ok)) c.in_err-next_u16-in-UShort.ensures.end

pub returns-in_err-next_u16-in-UShort-clause-named : goal.returns-in_err-next_u16-in-UShort-clause-named
returns-in_err-next_u16-in-UShort-clause-named g c = names_few g.R.Read.faulty _ ushort_kind _ _ _ UShort _ _ c.from_residual-in_err-next_u16-in-UShort.ensures.1 (rw c.in-UShort.is at c.in_ok-code.ensures.ok) refl (λ p. p) c.in_err-next_u16-in-UShort.ensures.end

pub returns-in_ok-next_u16-in-UShort-clause-ok : goal.returns-in_ok-next_u16-in-UShort-clause-ok
returns-in_ok-next_u16-in-UShort-clause-ok g c = ushort_wide _ _ _ _ _ (rw c.in-UShort.is at c.in_ok-code.ensures.ok) c.in_ok-next_u16-in-UShort.ensures.ok (search rules)

pub returns-in_default-clause-refused : goal.returns-in_default-clause-refused
returns-in_default-clause-refused g c = refusal_as g.R.Read.faulty _ _ _ c.refuse.ensures.same (wrong_ushort _ _ _ _ c.in_ok-code.ensures.ok c.in_default.not-UShort)

pub returns-in_default-clause-named : goal.returns-in_default-clause-named
returns-in_default-clause-named g c = names_wrong g.R.Read.faulty ushort_kind _ _ _ _ _ c.refuse.ensures.same c.in_ok-code.ensures.ok (not_ushort _ c.in_default.not-UShort)
