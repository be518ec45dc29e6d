use Rattle.std.proofs.Common.{refl}
use Rattle.serde_amqp_item.specs.declared.codes.EncodingCodes.TheVariants.{Sym8, Sym32}
use Rattle.serde_amqp_item.specs.Kind.{symbol_kind}
use Rattle.serde_amqp_read.specs.Reads.{faultless}
use Rattle.serde_amqp_de.proofs.Heads.{carried, no_head_refuses}
use Rattle.serde_amqp_de.proofs.Sized.{not_symbol, symbol8, no_symbol8, symbol32, no_symbol32}
use Rattle.serde_amqp_de.proofs.Naming.{names_on, names_text_on, names_wrong}
use Rattle.serde_amqp_de.proofs.borrow.Deserializer+SliceReader.borrow_symbol.Goals as goal

pub returns-in_err-lend_code-clause-refused : goal.returns-in_err-lend_code-clause-refused
returns-in_err-lend_code-clause-refused c = carried faultless _ c.in_err-lend_code.field-0.0 _ _ c.from_residual.ensures.1 (no_head_refuses _ _ _) c.in_err-lend_code.ensures.refused

pub returns-in_err-lend_text8-in-Sym8-clause-refused :
    goal.returns-in_err-lend_text8-in-Sym8-clause-refused
returns-in_err-lend_text8-in-Sym8-clause-refused c = carried faultless _ c.in_err-lend_text8-in-Sym8.field-0.0 _ _ c.from_residual-in_err-lend_text8-in-Sym8.ensures.1 (no_symbol8 _ _ _ (rw c.in-Sym8.is at c.in_ok-lend_code.ensures.ok)) c.in_err-lend_text8-in-Sym8.ensures.refused

pub returns-in_ok-lend_text8-in-Sym8-clause-ok : goal.returns-in_ok-lend_text8-in-Sym8-clause-ok
returns-in_ok-lend_text8-in-Sym8-clause-ok c = symbol8 _ _ _ _ _ (rw c.in-Sym8.is at c.in_ok-lend_code.ensures.ok) c.in_ok-lend_text8-in-Sym8.ensures.ok

pub returns-in_err-lend_text32-in-Sym32-clause-refused :
    goal.returns-in_err-lend_text32-in-Sym32-clause-refused
returns-in_err-lend_text32-in-Sym32-clause-refused c = carried faultless _ c.in_err-lend_text32-in-Sym32.field-0.0 _ _ c.from_residual-in_err-lend_text32-in-Sym32.ensures.1 (no_symbol32 _ _ _ (rw c.in-Sym32.is at c.in_ok-lend_code.ensures.ok)) c.in_err-lend_text32-in-Sym32.ensures.refused

pub returns-in_ok-lend_text32-in-Sym32-clause-ok : goal.returns-in_ok-lend_text32-in-Sym32-clause-ok
returns-in_ok-lend_text32-in-Sym32-clause-ok c = symbol32 _ _ _ _ _ (rw c.in-Sym32.is at c.in_ok-lend_code.ensures.ok) c.in_ok-lend_text32-in-Sym32.ensures.ok

pub returns-in_err-lend_code-clause-named : goal.returns-in_err-lend_code-clause-named
returns-in_err-lend_code-clause-named c = names_on faultless _ symbol_kind _ _ _ c.from_residual.ensures.1 (c.in_err-lend_code.ensures.named symbol_kind)

pub returns-in_err-lend_text8-in-Sym8-clause-named : goal.returns-in_err-lend_text8-in-Sym8-clause-named
returns-in_err-lend_text8-in-Sym8-clause-named c = names_text_on faultless _ symbol_kind _ _ _ Sym8 _ _ _ c.from_residual-in_err-lend_text8-in-Sym8.ensures.1 (rw c.in-Sym8.is at c.in_ok-lend_code.ensures.ok) refl refl c.in_err-lend_text8-in-Sym8.ensures.named

pub returns-in_err-lend_text32-in-Sym32-clause-named : goal.returns-in_err-lend_text32-in-Sym32-clause-named
returns-in_err-lend_text32-in-Sym32-clause-named c = names_text_on faultless _ symbol_kind _ _ _ Sym32 _ _ _ c.from_residual-in_err-lend_text32-in-Sym32.ensures.1 (rw c.in-Sym32.is at c.in_ok-lend_code.ensures.ok) refl refl c.in_err-lend_text32-in-Sym32.ensures.named

pub returns-in_default-clause-named : goal.returns-in_default-clause-named
returns-in_default-clause-named c = names_wrong faultless symbol_kind _ _ _ _ _ c.refuse.ensures.same c.in_ok-lend_code.ensures.ok (not_symbol _ c.in_default.not-Sym8 c.in_default.not-Sym32)
