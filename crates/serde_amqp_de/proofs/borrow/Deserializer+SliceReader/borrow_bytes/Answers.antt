use Rattle.std.proofs.Common.{refl}
use Rattle.serde_amqp_item.specs.declared.codes.EncodingCodes.TheVariants.{Vbin8, Vbin32}
use Rattle.serde_amqp_item.specs.Kind.{binary_kind}
use Rattle.serde_amqp_read.specs.Reads.{faultless}
use Rattle.serde_amqp_de.proofs.Heads.{carried, no_head_refuses}
use Rattle.serde_amqp_de.proofs.Sized.{not_binary, binary8, no_binary8, binary32, no_binary32}
use Rattle.serde_amqp_de.proofs.Naming.{names_on, names_few, names_wrong}
use Rattle.serde_amqp_de.proofs.borrow.Deserializer+SliceReader.borrow_bytes.Goals as goal

pub returns-in_err-lend_code-clause-refused : goal.returns-in_err-lend_code-clause-refused
returns-in_err-lend_code-clause-refused c = carried faultless _ c.in_err-lend_code.field-0.0 _ _ c.from_residual.ensures.1 (no_head_refuses _ _ _) c.in_err-lend_code.ensures.refused

pub returns-in_err-lend8-in-Vbin8-clause-refused : goal.returns-in_err-lend8-in-Vbin8-clause-refused
returns-in_err-lend8-in-Vbin8-clause-refused c = carried faultless _ c.in_err-lend8-in-Vbin8.field-0.0 _ _ c.from_residual-in_err-lend8-in-Vbin8.ensures.1 (no_binary8 _ _ _ (rw c.in-Vbin8.is at c.in_ok-lend_code.ensures.ok)) c.in_err-lend8-in-Vbin8.ensures.refused

pub returns-in_ok-lend8-in-Vbin8-clause-ok : goal.returns-in_ok-lend8-in-Vbin8-clause-ok
returns-in_ok-lend8-in-Vbin8-clause-ok c = binary8 _ _ _ _ _ (rw c.in-Vbin8.is at c.in_ok-lend_code.ensures.ok) c.in_ok-lend8-in-Vbin8.ensures.ok

pub returns-in_err-lend32-in-Vbin32-clause-refused :
    goal.returns-in_err-lend32-in-Vbin32-clause-refused
returns-in_err-lend32-in-Vbin32-clause-refused c = carried faultless _ c.in_err-lend32-in-Vbin32.field-0.0 _ _ c.from_residual-in_err-lend32-in-Vbin32.ensures.1 (no_binary32 _ _ _ (rw c.in-Vbin32.is at c.in_ok-lend_code.ensures.ok)) c.in_err-lend32-in-Vbin32.ensures.refused

pub returns-in_ok-lend32-in-Vbin32-clause-ok : goal.returns-in_ok-lend32-in-Vbin32-clause-ok
returns-in_ok-lend32-in-Vbin32-clause-ok c = binary32 _ _ _ _ _ (rw c.in-Vbin32.is at c.in_ok-lend_code.ensures.ok) c.in_ok-lend32-in-Vbin32.ensures.ok

pub returns-in_err-lend_code-clause-named : goal.returns-in_err-lend_code-clause-named
returns-in_err-lend_code-clause-named c = names_on faultless _ binary_kind _ _ _ c.from_residual.ensures.1 (c.in_err-lend_code.ensures.named binary_kind)

pub returns-in_err-lend8-in-Vbin8-clause-named : goal.returns-in_err-lend8-in-Vbin8-clause-named
returns-in_err-lend8-in-Vbin8-clause-named c = names_few faultless _ binary_kind _ _ _ Vbin8 _ _ c.from_residual-in_err-lend8-in-Vbin8.ensures.1 (rw c.in-Vbin8.is at c.in_ok-lend_code.ensures.ok) refl (λ p. p) c.in_err-lend8-in-Vbin8.ensures.refused

pub returns-in_err-lend32-in-Vbin32-clause-named : goal.returns-in_err-lend32-in-Vbin32-clause-named
returns-in_err-lend32-in-Vbin32-clause-named c = names_few faultless _ binary_kind _ _ _ Vbin32 _ _ c.from_residual-in_err-lend32-in-Vbin32.ensures.1 (rw c.in-Vbin32.is at c.in_ok-lend_code.ensures.ok) refl (λ p. p) c.in_err-lend32-in-Vbin32.ensures.refused

pub returns-in_default-clause-named : goal.returns-in_default-clause-named
returns-in_default-clause-named c = names_wrong faultless binary_kind _ _ _ _ _ c.refuse.ensures.same c.in_ok-lend_code.ensures.ok (not_binary _ c.in_default.not-Vbin8 c.in_default.not-Vbin32)
