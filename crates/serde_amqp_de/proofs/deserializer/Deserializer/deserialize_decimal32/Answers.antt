use Rattle.std.proofs.Common.{refl}
use Rattle.serde_amqp_item.specs.declared.codes.EncodingCodes.TheVariants.{Decimal32}
use Rattle.serde_amqp_item.specs.Kind.{decimal32_kind}
use Rattle.serde_amqp_de.proofs.Heads.{carried, no_head_refuses, refusal_as}
use Rattle.serde_amqp_de.proofs.Fixed.{not_decimal32, decimal32_read, short_decimal32, wrong_decimal32}
use Rattle.serde_amqp_de.proofs.Naming.{names_few, names_on, names_wrong}
use Rattle.serde_amqp_de.proofs.deserializer.Deserializer.deserialize_decimal32.Goals as goal

pub returns-in_err-code-clause-refused : goal.returns-in_err-code-clause-refused
returns-in_err-code-clause-refused g c = carried g.R.Read.faulty _ c.in_err-code.field-0.0 _ _ c.from_residual.ensures.1 (no_head_refuses _ _ _) c.in_err-code.ensures.refused

pub returns-in_err-code-clause-named : goal.returns-in_err-code-clause-named
returns-in_err-code-clause-named g c = names_on g.R.Read.faulty _ decimal32_kind _ _ _ c.from_residual.ensures.1 (c.in_err-code.ensures.named decimal32_kind)

pub returns-in_err-next_bytes-in-Decimal32-clause-refused :
    goal.returns-in_err-next_bytes-in-Decimal32-clause-refused
returns-in_err-next_bytes-in-Decimal32-clause-refused g c = carried g.R.Read.faulty _ c.in_err-next_bytes-in-Decimal32.field-0.0 _ _ c.from_residual-in_err-next_bytes-in-Decimal32.ensures.1 (short_decimal32 _ _ _ (rw c.in-Decimal32.is at c.in_ok-code.ensures.ok)) c.in_err-next_bytes-in-Decimal32.ensures.end

pub returns-in_err-next_bytes-in-Decimal32-clause-named : goal.returns-in_err-next_bytes-in-Decimal32-clause-named
returns-in_err-next_bytes-in-Decimal32-clause-named g c = names_few g.R.Read.faulty _ decimal32_kind _ _ _ Decimal32 _ _ c.from_residual-in_err-next_bytes-in-Decimal32.ensures.1 (rw c.in-Decimal32.is at c.in_ok-code.ensures.ok) refl (λ p. p) c.in_err-next_bytes-in-Decimal32.ensures.end

pub returns-in_ok-next_bytes-in-Decimal32-clause-ok :
    goal.returns-in_ok-next_bytes-in-Decimal32-clause-ok
returns-in_ok-next_bytes-in-Decimal32-clause-ok g c = decimal32_read _ _ _ _ _ (rw c.in-Decimal32.is at c.in_ok-code.ensures.ok) c.in_ok-next_bytes-in-Decimal32.ensures.ok c.in_ok-next_bytes-in-Decimal32.ensures.len

pub returns-in_default-clause-refused : goal.returns-in_default-clause-refused
returns-in_default-clause-refused g c = refusal_as g.R.Read.faulty _ _ _ c.refuse.ensures.same (wrong_decimal32 _ _ _ _ c.in_ok-code.ensures.ok c.in_default.not-Decimal32)

pub returns-in_default-clause-named : goal.returns-in_default-clause-named
returns-in_default-clause-named g c = names_wrong g.R.Read.faulty decimal32_kind _ _ _ _ _ c.refuse.ensures.same c.in_ok-code.ensures.ok (not_decimal32 _ c.in_default.not-Decimal32)
