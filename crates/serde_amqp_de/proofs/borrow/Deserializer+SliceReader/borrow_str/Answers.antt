use Rattle.std.proofs.Common.{refl}
use Rattle.serde_amqp_item.specs.declared.codes.EncodingCodes.TheVariants.{Str8, Str32}
use Rattle.serde_amqp_item.specs.Kind.{string_kind}
use Rattle.serde_amqp_read.specs.Reads.{faultless}
use Rattle.serde_amqp_de.proofs.Heads.{carried, no_head_refuses}
use Rattle.serde_amqp_de.proofs.Sized.{not_string, string8, no_string8, string32, no_string32}
use Rattle.serde_amqp_de.proofs.Naming.{names_on, names_text_on, names_wrong}
use Rattle.serde_amqp_de.proofs.borrow.Deserializer+SliceReader.borrow_str.Goals as goal

pub returns-in_err-lend_code-clause-refused : goal.returns-in_err-lend_code-clause-refused
returns-in_err-lend_code-clause-refused c = carried faultless _ c.in_err-lend_code.field-0.0 _ _ c.from_residual.ensures.1 (no_head_refuses _ _ _) c.in_err-lend_code.ensures.refused

pub returns-in_err-lend_text8-in-Str8-clause-refused :
    goal.returns-in_err-lend_text8-in-Str8-clause-refused
returns-in_err-lend_text8-in-Str8-clause-refused c = carried faultless _ c.in_err-lend_text8-in-Str8.field-0.0 _ _ c.from_residual-in_err-lend_text8-in-Str8.ensures.1 (no_string8 _ _ _ (rw c.in-Str8.is at c.in_ok-lend_code.ensures.ok)) c.in_err-lend_text8-in-Str8.ensures.refused

pub returns-in_ok-lend_text8-in-Str8-clause-ok : goal.returns-in_ok-lend_text8-in-Str8-clause-ok
returns-in_ok-lend_text8-in-Str8-clause-ok c = string8 _ _ _ _ _ (rw c.in-Str8.is at c.in_ok-lend_code.ensures.ok) c.in_ok-lend_text8-in-Str8.ensures.ok

pub returns-in_err-lend_text32-in-Str32-clause-refused :
    goal.returns-in_err-lend_text32-in-Str32-clause-refused
returns-in_err-lend_text32-in-Str32-clause-refused c = carried faultless _ c.in_err-lend_text32-in-Str32.field-0.0 _ _ c.from_residual-in_err-lend_text32-in-Str32.ensures.1 (no_string32 _ _ _ (rw c.in-Str32.is at c.in_ok-lend_code.ensures.ok)) c.in_err-lend_text32-in-Str32.ensures.refused

pub returns-in_ok-lend_text32-in-Str32-clause-ok : goal.returns-in_ok-lend_text32-in-Str32-clause-ok
returns-in_ok-lend_text32-in-Str32-clause-ok c = string32 _ _ _ _ _ (rw c.in-Str32.is at c.in_ok-lend_code.ensures.ok) c.in_ok-lend_text32-in-Str32.ensures.ok

pub returns-in_err-lend_code-clause-named : goal.returns-in_err-lend_code-clause-named
returns-in_err-lend_code-clause-named c = names_on faultless _ string_kind _ _ _ c.from_residual.ensures.1 (c.in_err-lend_code.ensures.named string_kind)

pub returns-in_err-lend_text8-in-Str8-clause-named : goal.returns-in_err-lend_text8-in-Str8-clause-named
returns-in_err-lend_text8-in-Str8-clause-named c = names_text_on faultless _ string_kind _ _ _ Str8 _ _ _ c.from_residual-in_err-lend_text8-in-Str8.ensures.1 (rw c.in-Str8.is at c.in_ok-lend_code.ensures.ok) refl refl c.in_err-lend_text8-in-Str8.ensures.named

pub returns-in_err-lend_text32-in-Str32-clause-named : goal.returns-in_err-lend_text32-in-Str32-clause-named
returns-in_err-lend_text32-in-Str32-clause-named c = names_text_on faultless _ string_kind _ _ _ Str32 _ _ _ c.from_residual-in_err-lend_text32-in-Str32.ensures.1 (rw c.in-Str32.is at c.in_ok-lend_code.ensures.ok) refl refl c.in_err-lend_text32-in-Str32.ensures.named

pub returns-in_default-clause-named : goal.returns-in_default-clause-named
returns-in_default-clause-named c = names_wrong faultless string_kind _ _ _ _ _ c.refuse.ensures.same c.in_ok-lend_code.ensures.ok (not_string _ c.in_default.not-Str8 c.in_default.not-Str32)
