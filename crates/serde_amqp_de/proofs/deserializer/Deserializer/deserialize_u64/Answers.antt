use Rattle.std.proofs.Common.{refl, rules}
use Rattle.serde_amqp_item.specs.declared.codes.EncodingCodes.TheVariants.{SmallULong, ULong}
use Rattle.serde_amqp_item.specs.Kind.{ulong_kind}
use Rattle.serde_amqp_de.proofs.Heads.{carried, no_head_refuses, refusal_as}
use Rattle.serde_amqp_de.proofs.Scalars.{not_ulong, ulong_zero, ulong_small, no_ulong_small, ulong_wide, no_ulong_wide, wrong_ulong}
use Rattle.serde_amqp_de.proofs.Naming.{names_few, names_on, names_wrong, nothing_left}
use Rattle.serde_amqp_de.proofs.deserializer.Deserializer.deserialize_u64.Goals as goal

pub returns-in_err-code-clause-refused : goal.returns-in_err-code-clause-refused
returns-in_err-code-clause-refused g c = carried g.R.Read.faulty _ c.in_err-code.field-0.0 _ _ c.from_residual.ensures.1 (no_head_refuses _ _ _) c.in_err-code.ensures.refused

pub returns-in_err-code-clause-named : goal.returns-in_err-code-clause-named
returns-in_err-code-clause-named g c = names_on g.R.Read.faulty _ ulong_kind _ _ _ c.from_residual.ensures.1 (c.in_err-code.ensures.named ulong_kind)

pub returns-in-ULong0-clause-ok : goal.returns-in-ULong0-clause-ok
returns-in-ULong0-clause-ok g c = ulong_zero _ _ _ (rw c.in-ULong0.is at c.in_ok-code.ensures.ok)

pub returns-in_err-next_byte-in-SmallULong-clause-refused :
    goal.returns-in_err-next_byte-in-SmallULong-clause-refused
returns-in_err-next_byte-in-SmallULong-clause-refused g c = carried g.R.Read.faulty _ c.in_err-next_byte-in-SmallULong.field-0.0 _ _ c.from_residual-in_err-next_byte-in-SmallULong.ensures.1 (no_ulong_small _ _ _ (rw c.in-SmallULong.is at c.in_ok-code.ensures.ok)) c.in_err-next_byte-in-SmallULong.ensures.end

pub returns-in_err-next_byte-in-SmallULong-clause-named : goal.returns-in_err-next_byte-in-SmallULong-clause-named
returns-in_err-next_byte-in-SmallULong-clause-named g c = names_few g.R.Read.faulty _ ulong_kind _ _ _ SmallULong _ _ c.from_residual-in_err-next_byte-in-SmallULong.ensures.1 (rw c.in-SmallULong.is at c.in_ok-code.ensures.ok) refl (λ p. nothing_left _ p) c.in_err-next_byte-in-SmallULong.ensures.end

pub returns-in_ok-next_byte-in-SmallULong-clause-ok :
    goal.returns-in_ok-next_byte-in-SmallULong-clause-ok
returns-in_ok-next_byte-in-SmallULong-clause-ok g c = ulong_small _ _ _ _ _ (rw c.in-SmallULong.is at c.in_ok-code.ensures.ok) c.in_ok-next_byte-in-SmallULong.ensures.ok

pub returns-in_err-next_u64-in-ULong-clause-refused :
    goal.returns-in_err-next_u64-in-ULong-clause-refused
returns-in_err-next_u64-in-ULong-clause-refused g c = carried g.R.Read.faulty _ c.in_err-next_u64-in-ULong.field-0.0 _ _ c.from_residual-in_err-next_u64-in-ULong.ensures.1 (no_ulong_wide _ _ _ (rw c.in-ULong.is at c.in_ok-code.ensures.ok)) c.in_err-next_u64-in-ULong.ensures.end

pub returns-in_err-next_u64-in-ULong-clause-named : goal.returns-in_err-next_u64-in-ULong-clause-named
returns-in_err-next_u64-in-ULong-clause-named g c = names_few g.R.Read.faulty _ ulong_kind _ _ _ ULong _ _ c.from_residual-in_err-next_u64-in-ULong.ensures.1 (rw c.in-ULong.is at c.in_ok-code.ensures.ok) refl (λ p. p) c.in_err-next_u64-in-ULong.ensures.end

pub returns-in_ok-next_u64-in-ULong-clause-ok : goal.returns-in_ok-next_u64-in-ULong-clause-ok
returns-in_ok-next_u64-in-ULong-clause-ok g c = ulong_wide _ _ _ _ _ (rw c.in-ULong.is at c.in_ok-code.ensures.ok) c.in_ok-next_u64-in-ULong.ensures.ok (search rules)

pub returns-in_default-clause-refused : goal.returns-in_default-clause-refused
returns-in_default-clause-refused g c = refusal_as g.R.Read.faulty _ _ _ c.refuse.ensures.same (wrong_ulong _ _ _ _ c.in_ok-code.ensures.ok c.in_default.not-ULong0 c.in_default.not-SmallULong c.in_default.not-ULong)

pub returns-in_default-clause-named : goal.returns-in_default-clause-named
returns-in_default-clause-named g c = names_wrong g.R.Read.faulty ulong_kind _ _ _ _ _ c.refuse.ensures.same c.in_ok-code.ensures.ok (not_ulong _ c.in_default.not-ULong0 c.in_default.not-SmallULong c.in_default.not-ULong)
