use Rattle.std.proofs.Common.{refl, sym, ◌∙◌, subst}
use Rattle.std.specs.Prelude.{ℤ}
use Rattle.std.specs.Int.{w8}
use Rattle.std.proofs.lemmas.Int.{to_z-of_z}
use Rattle.serde_amqp_item.specs.Item.{scalar, byte}
use Rattle.serde_amqp_item.specs.declared.codes.EncodingCodes.TheVariants.{Byte}
use Rattle.serde_amqp_item.specs.Kind.{byte_kind}
use Rattle.serde_amqp_de.specs.Reads.{Reads, at_of}
use Rattle.serde_amqp_de.proofs.Heads.{carried, no_head_refuses, refusal_as}
use Rattle.serde_amqp_de.proofs.Fixed.{not_byte, byte_read, short_byte, wrong_byte}
use Rattle.serde_amqp_de.proofs.Naming.{names_few, names_on, names_wrong, nothing_left}
use Rattle.serde_amqp_de.proofs.deserializer.Deserializer.deserialize_i8.Goals as goal

pub returns-in_err-code-clause-refused : goal.returns-in_err-code-clause-refused
returns-in_err-code-clause-refused g c = carried g.R.Read.faulty _ c.in_err-code.field-0.0 _ _ c.from_residual.ensures.1 (no_head_refuses _ _ _) c.in_err-code.ensures.refused

pub returns-in_err-code-clause-named : goal.returns-in_err-code-clause-named
returns-in_err-code-clause-named g c = names_on g.R.Read.faulty _ byte_kind _ _ _ c.from_residual.ensures.1 (c.in_err-code.ensures.named byte_kind)

pub returns-in_err-next_byte-in-Byte-clause-refused :
    goal.returns-in_err-next_byte-in-Byte-clause-refused
returns-in_err-next_byte-in-Byte-clause-refused g c = carried g.R.Read.faulty _ c.in_err-next_byte-in-Byte.field-0.0 _ _ c.from_residual-in_err-next_byte-in-Byte.ensures.1 (short_byte _ _ _ (rw c.in-Byte.is at c.in_ok-code.ensures.ok)) c.in_err-next_byte-in-Byte.ensures.end

pub returns-in_err-next_byte-in-Byte-clause-named : goal.returns-in_err-next_byte-in-Byte-clause-named
returns-in_err-next_byte-in-Byte-clause-named g c = names_few g.R.Read.faulty _ byte_kind _ _ _ Byte _ _ c.from_residual-in_err-next_byte-in-Byte.ensures.1 (rw c.in-Byte.is at c.in_ok-code.ensures.ok) refl (λ p. nothing_left _ p) c.in_err-next_byte-in-Byte.ensures.end

pub returns-in_ok-next_byte-in-Byte-clause-ok : goal.returns-in_ok-next_byte-in-Byte-clause-ok
returns-in_ok-next_byte-in-Byte-clause-ok g c =
    let same = to_z-of_z w8 c.cast_signed.result (record { sfits = c.cast_signed.type_inv }) ∙ c.cast_signed.ensures in
    subst (λ (z : ℤ). Reads c.args.self.now.element (at_of g.R.Read.rest c.args.self.now) (at_of g.R.Read.rest c.next_byte.new.self) (scalar (byte z))) (sym same) (byte_read _ _ _ _ _ (rw c.in-Byte.is at c.in_ok-code.ensures.ok) c.in_ok-next_byte-in-Byte.ensures.ok)

pub returns-in_default-clause-refused : goal.returns-in_default-clause-refused
returns-in_default-clause-refused g c = refusal_as g.R.Read.faulty _ _ _ c.refuse.ensures.same (wrong_byte _ _ _ _ c.in_ok-code.ensures.ok c.in_default.not-Byte)

pub returns-in_default-clause-named : goal.returns-in_default-clause-named
returns-in_default-clause-named g c = names_wrong g.R.Read.faulty byte_kind _ _ _ _ _ c.refuse.ensures.same c.in_ok-code.ensures.ok (not_byte _ c.in_default.not-Byte)
