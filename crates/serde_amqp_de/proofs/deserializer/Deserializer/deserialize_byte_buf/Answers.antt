use Rattle.std.proofs.Common.{refl}
use Rattle.serde_amqp_item.specs.declared.codes.EncodingCodes.TheVariants.{Vbin32, Vbin8}
use Rattle.serde_amqp_item.specs.Kind.{binary_kind}
use Rattle.serde_amqp_de.proofs.Heads.{carried, no_head_refuses, refusal_as}
use Rattle.serde_amqp_de.proofs.Sized.{not_binary, binary8, no_binary8, binary32, no_binary32, wrong_binary}
use Rattle.serde_amqp_de.proofs.Naming.{names_few, names_on, names_wrong}
use Rattle.serde_amqp_de.proofs.deserializer.Deserializer.deserialize_byte_buf.Goals as goal

pub returns-in_err-code-clause-refused : goal.returns-in_err-code-clause-refused
returns-in_err-code-clause-refused g c = carried g.R.Read.faulty _ c.in_err-code.field-0.0 _ _ c.from_residual.ensures.1 (no_head_refuses _ _ _) c.in_err-code.ensures.refused

pub returns-in_err-code-clause-named : goal.returns-in_err-code-clause-named
returns-in_err-code-clause-named g c = names_on g.R.Read.faulty _ binary_kind _ _ _ c.from_residual.ensures.1 (c.in_err-code.ensures.named binary_kind)

pub returns-in_err-sized8-in-Vbin8-clause-refused :
    goal.returns-in_err-sized8-in-Vbin8-clause-refused
returns-in_err-sized8-in-Vbin8-clause-refused g c = carried g.R.Read.faulty _ c.in_err-sized8-in-Vbin8.field-0.0 _ _ c.from_residual-in_err-sized8-in-Vbin8.ensures.1 (no_binary8 _ _ _ (rw c.in-Vbin8.is at c.in_ok-code.ensures.ok)) c.in_err-sized8-in-Vbin8.ensures.refused

pub returns-in_err-sized8-in-Vbin8-clause-named : goal.returns-in_err-sized8-in-Vbin8-clause-named
returns-in_err-sized8-in-Vbin8-clause-named g c = names_few g.R.Read.faulty _ binary_kind _ _ _ Vbin8 _ _ c.from_residual-in_err-sized8-in-Vbin8.ensures.1 (rw c.in-Vbin8.is at c.in_ok-code.ensures.ok) refl (λ p. p) c.in_err-sized8-in-Vbin8.ensures.refused

pub returns-in_ok-sized8-in-Vbin8-clause-ok : goal.returns-in_ok-sized8-in-Vbin8-clause-ok
returns-in_ok-sized8-in-Vbin8-clause-ok g c = binary8 _ _ _ _ _ (rw c.in-Vbin8.is at c.in_ok-code.ensures.ok) c.in_ok-sized8-in-Vbin8.ensures.ok

pub returns-in_err-sized32-in-Vbin32-clause-refused :
    goal.returns-in_err-sized32-in-Vbin32-clause-refused
returns-in_err-sized32-in-Vbin32-clause-refused g c = carried g.R.Read.faulty _ c.in_err-sized32-in-Vbin32.field-0.0 _ _ c.from_residual-in_err-sized32-in-Vbin32.ensures.1 (no_binary32 _ _ _ (rw c.in-Vbin32.is at c.in_ok-code.ensures.ok)) c.in_err-sized32-in-Vbin32.ensures.refused

pub returns-in_err-sized32-in-Vbin32-clause-named : goal.returns-in_err-sized32-in-Vbin32-clause-named
returns-in_err-sized32-in-Vbin32-clause-named g c = names_few g.R.Read.faulty _ binary_kind _ _ _ Vbin32 _ _ c.from_residual-in_err-sized32-in-Vbin32.ensures.1 (rw c.in-Vbin32.is at c.in_ok-code.ensures.ok) refl (λ p. p) c.in_err-sized32-in-Vbin32.ensures.refused

pub returns-in_ok-sized32-in-Vbin32-clause-ok : goal.returns-in_ok-sized32-in-Vbin32-clause-ok
returns-in_ok-sized32-in-Vbin32-clause-ok g c = binary32 _ _ _ _ _ (rw c.in-Vbin32.is at c.in_ok-code.ensures.ok) c.in_ok-sized32-in-Vbin32.ensures.ok

pub returns-in_default-clause-refused : goal.returns-in_default-clause-refused
returns-in_default-clause-refused g c = refusal_as g.R.Read.faulty _ _ _ c.refuse.ensures.same (wrong_binary _ _ _ _ c.in_ok-code.ensures.ok c.in_default.not-Vbin8 c.in_default.not-Vbin32)

pub returns-in_default-clause-named : goal.returns-in_default-clause-named
returns-in_default-clause-named g c = names_wrong g.R.Read.faulty binary_kind _ _ _ _ _ c.refuse.ensures.same c.in_ok-code.ensures.ok (not_binary _ c.in_default.not-Vbin8 c.in_default.not-Vbin32)
