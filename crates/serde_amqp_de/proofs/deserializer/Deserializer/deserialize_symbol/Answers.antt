use Rattle.std.proofs.Common.{refl}
use Rattle.serde_amqp_item.specs.declared.codes.EncodingCodes.TheVariants.{Sym32, Sym8}
use Rattle.serde_amqp_item.specs.Kind.{symbol_kind}
use Rattle.serde_amqp_de.proofs.Heads.{carried, no_head_refuses, refusal_as}
use Rattle.serde_amqp_de.proofs.Sized.{not_symbol, symbol8, no_symbol8, symbol32, no_symbol32, wrong_symbol}
use Rattle.serde_amqp_de.proofs.Naming.{names_on, names_text_on, names_wrong}
use Rattle.serde_amqp_de.proofs.deserializer.Deserializer.deserialize_symbol.Goals as goal

pub returns-in_err-code-clause-refused : goal.returns-in_err-code-clause-refused
returns-in_err-code-clause-refused g c = carried g.R.Read.faulty _ c.in_err-code.field-0.0 _ _ c.from_residual.ensures.1 (no_head_refuses _ _ _) c.in_err-code.ensures.refused

pub returns-in_err-code-clause-named : goal.returns-in_err-code-clause-named
returns-in_err-code-clause-named g c = names_on g.R.Read.faulty _ symbol_kind _ _ _ c.from_residual.ensures.1 (c.in_err-code.ensures.named symbol_kind)

pub returns-in_err-text8-in-Sym8-clause-refused : goal.returns-in_err-text8-in-Sym8-clause-refused
returns-in_err-text8-in-Sym8-clause-refused g c = carried g.R.Read.faulty _ c.in_err-text8-in-Sym8.field-0.0 _ _ c.from_residual-in_err-text8-in-Sym8.ensures.1 (no_symbol8 _ _ _ (rw c.in-Sym8.is at c.in_ok-code.ensures.ok)) c.in_err-text8-in-Sym8.ensures.refused

pub returns-in_err-text8-in-Sym8-clause-named : goal.returns-in_err-text8-in-Sym8-clause-named
returns-in_err-text8-in-Sym8-clause-named g c = names_text_on g.R.Read.faulty _ symbol_kind _ _ _ Sym8 _ _ _ c.from_residual-in_err-text8-in-Sym8.ensures.1 (rw c.in-Sym8.is at c.in_ok-code.ensures.ok) refl refl c.in_err-text8-in-Sym8.ensures.named

pub returns-in_ok-text8-in-Sym8-clause-ok : goal.returns-in_ok-text8-in-Sym8-clause-ok
returns-in_ok-text8-in-Sym8-clause-ok g c = symbol8 _ _ _ _ _ (rw c.in-Sym8.is at c.in_ok-code.ensures.ok) c.in_ok-text8-in-Sym8.ensures.ok

pub returns-in_err-text32-in-Sym32-clause-refused :
    goal.returns-in_err-text32-in-Sym32-clause-refused
returns-in_err-text32-in-Sym32-clause-refused g c = carried g.R.Read.faulty _ c.in_err-text32-in-Sym32.field-0.0 _ _ c.from_residual-in_err-text32-in-Sym32.ensures.1 (no_symbol32 _ _ _ (rw c.in-Sym32.is at c.in_ok-code.ensures.ok)) c.in_err-text32-in-Sym32.ensures.refused

pub returns-in_err-text32-in-Sym32-clause-named : goal.returns-in_err-text32-in-Sym32-clause-named
returns-in_err-text32-in-Sym32-clause-named g c = names_text_on g.R.Read.faulty _ symbol_kind _ _ _ Sym32 _ _ _ c.from_residual-in_err-text32-in-Sym32.ensures.1 (rw c.in-Sym32.is at c.in_ok-code.ensures.ok) refl refl c.in_err-text32-in-Sym32.ensures.named

pub returns-in_ok-text32-in-Sym32-clause-ok : goal.returns-in_ok-text32-in-Sym32-clause-ok
returns-in_ok-text32-in-Sym32-clause-ok g c = symbol32 _ _ _ _ _ (rw c.in-Sym32.is at c.in_ok-code.ensures.ok) c.in_ok-text32-in-Sym32.ensures.ok

pub returns-in_default-clause-refused : goal.returns-in_default-clause-refused
returns-in_default-clause-refused g c = refusal_as g.R.Read.faulty _ _ _ c.refuse.ensures.same (wrong_symbol _ _ _ _ c.in_ok-code.ensures.ok c.in_default.not-Sym8 c.in_default.not-Sym32)

pub returns-in_default-clause-named : goal.returns-in_default-clause-named
returns-in_default-clause-named g c = names_wrong g.R.Read.faulty symbol_kind _ _ _ _ _ c.refuse.ensures.same c.in_ok-code.ensures.ok (not_symbol _ c.in_default.not-Sym8 c.in_default.not-Sym32)
