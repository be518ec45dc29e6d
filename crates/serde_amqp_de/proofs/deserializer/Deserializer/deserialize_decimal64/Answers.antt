use Rattle.std.proofs.Common.{refl}
use Rattle.serde_amqp_item.specs.declared.codes.EncodingCodes.TheVariants.{Decimal64}
use Rattle.serde_amqp_item.specs.Kind.{decimal64_kind}
use Rattle.serde_amqp_de.proofs.Heads.{carried, no_head_refuses, refusal_as}
use Rattle.serde_amqp_de.proofs.Fixed.{not_decimal64, decimal64_read, short_decimal64, wrong_decimal64}
use Rattle.serde_amqp_de.proofs.Naming.{names_few, names_on, names_wrong}
use Rattle.serde_amqp_de.proofs.deserializer.Deserializer.deserialize_decimal64.Goals as goal

pub returns-in_err-code-clause-refused : goal.returns-in_err-code-clause-refused
returns-in_err-code-clause-refused g c = carried g.R.Read.faulty _ c.in_err-code.field-0.0 _ _ c.from_residual.ensures.1 (no_head_refuses _ _ _) c.in_err-code.ensures.refused

pub returns-in_err-code-clause-named : goal.returns-in_err-code-clause-named
returns-in_err-code-clause-named g c = names_on g.R.Read.faulty _ decimal64_kind _ _ _ c.from_residual.ensures.1 (c.in_err-code.ensures.named decimal64_kind)

pub returns-in_err-next_bytes-in-Decimal64-clause-refused :
    goal.returns-in_err-next_bytes-in-Decimal64-clause-refused
returns-in_err-next_bytes-in-Decimal64-clause-refused g c = carried g.R.Read.faulty _ c.in_err-next_bytes-in-Decimal64.field-0.0 _ _ c.from_residual-in_err-next_bytes-in-Decimal64.ensures.1 (short_decimal64 _ _ _ (rw c.in-Decimal64.is at c.in_ok-code.ensures.ok)) c.in_err-next_bytes-in-Decimal64.ensures.end

pub returns-in_err-next_bytes-in-Decimal64-clause-named : goal.returns-in_err-next_bytes-in-Decimal64-clause-named
returns-in_err-next_bytes-in-Decimal64-clause-named g c = names_few g.R.Read.faulty _ decimal64_kind _ _ _ Decimal64 _ _ c.from_residual-in_err-next_bytes-in-Decimal64.ensures.1 (rw c.in-Decimal64.is at c.in_ok-code.ensures.ok) refl (λ p. p) c.in_err-next_bytes-in-Decimal64.ensures.end

pub returns-in_ok-next_bytes-in-Decimal64-clause-ok :
    goal.returns-in_ok-next_bytes-in-Decimal64-clause-ok
returns-in_ok-next_bytes-in-Decimal64-clause-ok g c = decimal64_read _ _ _ _ _ (rw c.in-Decimal64.is at c.in_ok-code.ensures.ok) c.in_ok-next_bytes-in-Decimal64.ensures.ok c.in_ok-next_bytes-in-Decimal64.ensures.len

pub returns-in_default-clause-refused : goal.returns-in_default-clause-refused
returns-in_default-clause-refused g c = refusal_as g.R.Read.faulty _ _ _ c.refuse.ensures.same (wrong_decimal64 _ _ _ _ c.in_ok-code.ensures.ok c.in_default.not-Decimal64)

pub returns-in_default-clause-named : goal.returns-in_default-clause-named
returns-in_default-clause-named g c = names_wrong g.R.Read.faulty decimal64_kind _ _ _ _ _ c.refuse.ensures.same c.in_ok-code.ensures.ok (not_decimal64 _ c.in_default.not-Decimal64)
