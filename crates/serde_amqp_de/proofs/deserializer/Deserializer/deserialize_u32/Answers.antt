use Rattle.std.proofs.Common.{refl, rules}
use Rattle.serde_amqp_item.specs.declared.codes.EncodingCodes.TheVariants.{SmallUInt, UInt}
use Rattle.serde_amqp_item.specs.Kind.{uint_kind}
use Rattle.serde_amqp_de.proofs.Heads.{carried, no_head_refuses, refusal_as}
use Rattle.serde_amqp_de.proofs.Scalars.{not_uint, uint_zero, uint_small, no_uint_small, uint_wide, no_uint_wide, wrong_uint}
use Rattle.serde_amqp_de.proofs.Naming.{names_few, names_on, names_wrong, nothing_left}
use Rattle.serde_amqp_de.proofs.deserializer.Deserializer.deserialize_u32.Goals as goal

pub returns-in_err-code-clause-refused : goal.returns-in_err-code-clause-refused
returns-in_err-code-clause-refused g c = carried g.R.Read.faulty _ c.in_err-code.field-0.0 _ _ c.from_residual.ensures.1 (no_head_refuses _ _ _) c.in_err-code.ensures.refused

pub returns-in_err-code-clause-named : goal.returns-in_err-code-clause-named
returns-in_err-code-clause-named g c = names_on g.R.Read.faulty _ uint_kind _ _ _ c.from_residual.ensures.1 (c.in_err-code.ensures.named uint_kind)

pub returns-in-UInt0-clause-ok : goal.returns-in-UInt0-clause-ok
returns-in-UInt0-clause-ok g c = uint_zero _ _ _ (rw c.in-UInt0.is at c.in_ok-code.ensures.ok)

pub returns-in_err-next_byte-in-SmallUInt-clause-refused :
    goal.returns-in_err-next_byte-in-SmallUInt-clause-refused
returns-in_err-next_byte-in-SmallUInt-clause-refused g c = carried g.R.Read.faulty _ c.in_err-next_byte-in-SmallUInt.field-0.0 _ _ c.from_residual-in_err-next_byte-in-SmallUInt.ensures.1 (no_uint_small _ _ _ (rw c.in-SmallUInt.is at c.in_ok-code.ensures.ok)) c.in_err-next_byte-in-SmallUInt.ensures.end

pub returns-in_err-next_byte-in-SmallUInt-clause-named : goal.returns-in_err-next_byte-in-SmallUInt-clause-named
returns-in_err-next_byte-in-SmallUInt-clause-named g c = names_few g.R.Read.faulty _ uint_kind _ _ _ SmallUInt _ _ c.from_residual-in_err-next_byte-in-SmallUInt.ensures.1 (rw c.in-SmallUInt.is at c.in_ok-code.ensures.ok) refl (λ p. nothing_left _ p) c.in_err-next_byte-in-SmallUInt.ensures.end

pub returns-in_ok-next_byte-in-SmallUInt-clause-ok :
    goal.returns-in_ok-next_byte-in-SmallUInt-clause-ok
returns-in_ok-next_byte-in-SmallUInt-clause-ok g c = uint_small _ _ _ _ _ (rw c.in-SmallUInt.is at c.in_ok-code.ensures.ok) c.in_ok-next_byte-in-SmallUInt.ensures.ok

pub returns-in_err-next_u32-in-UInt-clause-refused :
    goal.returns-in_err-next_u32-in-UInt-clause-refused
returns-in_err-next_u32-in-UInt-clause-refused g c = carried g.R.Read.faulty _ c.in_err-next_u32-in-UInt.field-0.0 _ _ c.from_residual-in_err-next_u32-in-UInt.ensures.1 (no_uint_wide _ _ _ (rw c.in-UInt.is at c.in_ok-code.ensures.ok)) c.in_err-next_u32-in-UInt.ensures.end

pub returns-in_err-next_u32-in-UInt-clause-named : goal.returns-in_err-next_u32-in-UInt-clause-named
returns-in_err-next_u32-in-UInt-clause-named g c = names_few g.R.Read.faulty _ uint_kind _ _ _ UInt _ _ c.from_residual-in_err-next_u32-in-UInt.ensures.1 (rw c.in-UInt.is at c.in_ok-code.ensures.ok) refl (λ p. p) c.in_err-next_u32-in-UInt.ensures.end

pub returns-in_ok-next_u32-in-UInt-clause-ok : goal.returns-in_ok-next_u32-in-UInt-clause-ok
returns-in_ok-next_u32-in-UInt-clause-ok g c = uint_wide _ _ _ _ _ (rw c.in-UInt.is at c.in_ok-code.ensures.ok) c.in_ok-next_u32-in-UInt.ensures.ok (search rules)

pub returns-in_default-clause-refused : goal.returns-in_default-clause-refused
returns-in_default-clause-refused g c = refusal_as g.R.Read.faulty _ _ _ c.refuse.ensures.same (wrong_uint _ _ _ _ c.in_ok-code.ensures.ok c.in_default.not-UInt0 c.in_default.not-SmallUInt c.in_default.not-UInt)

pub returns-in_default-clause-named : goal.returns-in_default-clause-named
returns-in_default-clause-named g c = names_wrong g.R.Read.faulty uint_kind _ _ _ _ _ c.refuse.ensures.same c.in_ok-code.ensures.ok (not_uint _ c.in_default.not-UInt0 c.in_default.not-SmallUInt c.in_default.not-UInt)
