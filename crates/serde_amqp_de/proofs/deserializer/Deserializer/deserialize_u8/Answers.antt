use Rattle.std.proofs.Common.{refl}
use Rattle.serde_amqp_item.specs.declared.codes.EncodingCodes.TheVariants.{UByte}
use Rattle.serde_amqp_item.specs.Kind.{ubyte_kind}
use Rattle.serde_amqp_de.proofs.Heads.{carried, no_head_refuses, refusal_as}
use Rattle.serde_amqp_de.proofs.Fixed.{not_ubyte, ubyte_read, short_ubyte, wrong_ubyte}
use Rattle.serde_amqp_de.proofs.Naming.{names_few, names_on, names_wrong, nothing_left}
use Rattle.serde_amqp_de.proofs.deserializer.Deserializer.deserialize_u8.Goals as goal

pub returns-in_err-code-clause-refused : goal.returns-in_err-code-clause-refused
returns-in_err-code-clause-refused g c = carried g.R.Read.faulty _ c.in_err-code.field-0.0 _ _ c.from_residual.ensures.1 (no_head_refuses _ _ _) c.in_err-code.ensures.refused

pub returns-in_err-code-clause-named : goal.returns-in_err-code-clause-named
returns-in_err-code-clause-named g c = names_on g.R.Read.faulty _ ubyte_kind _ _ _ c.from_residual.ensures.1 (c.in_err-code.ensures.named ubyte_kind)

pub returns-in_err-next_byte-in-UByte-clause-refused :
    goal.returns-in_err-next_byte-in-UByte-clause-refused
returns-in_err-next_byte-in-UByte-clause-refused g c = carried g.R.Read.faulty _ c.in_err-next_byte-in-UByte.field-0.0 _ _ c.from_residual-in_err-next_byte-in-UByte.ensures.1 (short_ubyte _ _ _ (rw c.in-UByte.is at c.in_ok-code.ensures.ok)) c.in_err-next_byte-in-UByte.ensures.end

pub returns-in_err-next_byte-in-UByte-clause-named : goal.returns-in_err-next_byte-in-UByte-clause-named
returns-in_err-next_byte-in-UByte-clause-named g c = names_few g.R.Read.faulty _ ubyte_kind _ _ _ UByte _ _ c.from_residual-in_err-next_byte-in-UByte.ensures.1 (rw c.in-UByte.is at c.in_ok-code.ensures.ok) refl (λ p. nothing_left _ p) c.in_err-next_byte-in-UByte.ensures.end

pub returns-in_ok-next_byte-in-UByte-clause-ok : goal.returns-in_ok-next_byte-in-UByte-clause-ok
returns-in_ok-next_byte-in-UByte-clause-ok g c = ubyte_read _ _ _ _ _ (rw c.in-UByte.is at c.in_ok-code.ensures.ok) c.in_ok-next_byte-in-UByte.ensures.ok

pub returns-in_default-clause-refused : goal.returns-in_default-clause-refused
returns-in_default-clause-refused g c = refusal_as g.R.Read.faulty _ _ _ c.refuse.ensures.same (wrong_ubyte _ _ _ _ c.in_ok-code.ensures.ok c.in_default.not-UByte)

pub returns-in_default-clause-named : goal.returns-in_default-clause-named
returns-in_default-clause-named g c = names_wrong g.R.Read.faulty ubyte_kind _ _ _ _ _ c.refuse.ensures.same c.in_ok-code.ensures.ok (not_ubyte _ c.in_default.not-UByte)
