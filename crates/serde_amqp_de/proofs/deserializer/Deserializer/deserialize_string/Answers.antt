use Rattle.std.proofs.Common.{refl}
use Rattle.serde_amqp_item.specs.declared.codes.EncodingCodes.TheVariants.{Str32, Str8}
use Rattle.serde_amqp_item.specs.Kind.{string_kind}
use Rattle.serde_amqp_de.proofs.Heads.{carried, no_head_refuses, refusal_as}
use Rattle.serde_amqp_de.proofs.Sized.{not_string, string8, no_string8, string32, no_string32, wrong_string}
use Rattle.serde_amqp_de.proofs.Naming.{names_on, names_text_on, names_wrong}
use Rattle.serde_amqp_de.proofs.deserializer.Deserializer.deserialize_string.Goals as goal

pub returns-in_err-code-clause-refused : goal.returns-in_err-code-clause-refused
returns-in_err-code-clause-refused g c = carried g.R.Read.faulty _ c.in_err-code.field-0.0 _ _ c.from_residual.ensures.1 (no_head_refuses _ _ _) c.in_err-code.ensures.refused

pub returns-in_err-code-clause-named : goal.returns-in_err-code-clause-named
returns-in_err-code-clause-named g c = names_on g.R.Read.faulty _ string_kind _ _ _ c.from_residual.ensures.1 (c.in_err-code.ensures.named string_kind)

pub returns-in_err-text8-in-Str8-clause-refused : goal.returns-in_err-text8-in-Str8-clause-refused
returns-in_err-text8-in-Str8-clause-refused g c = carried g.R.Read.faulty _ c.in_err-text8-in-Str8.field-0.0 _ _ c.from_residual-in_err-text8-in-Str8.ensures.1 (no_string8 _ _ _ (rw c.in-Str8.is at c.in_ok-code.ensures.ok)) c.in_err-text8-in-Str8.ensures.refused

pub returns-in_err-text8-in-Str8-clause-named : goal.returns-in_err-text8-in-Str8-clause-named
returns-in_err-text8-in-Str8-clause-named g c = names_text_on g.R.Read.faulty _ string_kind _ _ _ Str8 _ _ _ c.from_residual-in_err-text8-in-Str8.ensures.1 (rw c.in-Str8.is at c.in_ok-code.ensures.ok) refl refl c.in_err-text8-in-Str8.ensures.named

pub returns-in_ok-text8-in-Str8-clause-ok : goal.returns-in_ok-text8-in-Str8-clause-ok
returns-in_ok-text8-in-Str8-clause-ok g c = string8 _ _ _ _ _ (rw c.in-Str8.is at c.in_ok-code.ensures.ok) c.in_ok-text8-in-Str8.ensures.ok

pub returns-in_err-text32-in-Str32-clause-refused :
    goal.returns-in_err-text32-in-Str32-clause-refused
returns-in_err-text32-in-Str32-clause-refused g c = carried g.R.Read.faulty _ c.in_err-text32-in-Str32.field-0.0 _ _ c.from_residual-in_err-text32-in-Str32.ensures.1 (no_string32 _ _ _ (rw c.in-Str32.is at c.in_ok-code.ensures.ok)) c.in_err-text32-in-Str32.ensures.refused

pub returns-in_err-text32-in-Str32-clause-named : goal.returns-in_err-text32-in-Str32-clause-named
returns-in_err-text32-in-Str32-clause-named g c = names_text_on g.R.Read.faulty _ string_kind _ _ _ Str32 _ _ _ c.from_residual-in_err-text32-in-Str32.ensures.1 (rw c.in-Str32.is at c.in_ok-code.ensures.ok) refl refl c.in_err-text32-in-Str32.ensures.named

pub returns-in_ok-text32-in-Str32-clause-ok : goal.returns-in_ok-text32-in-Str32-clause-ok
returns-in_ok-text32-in-Str32-clause-ok g c = string32 _ _ _ _ _ (rw c.in-Str32.is at c.in_ok-code.ensures.ok) c.in_ok-text32-in-Str32.ensures.ok

pub returns-in_default-clause-refused : goal.returns-in_default-clause-refused
returns-in_default-clause-refused g c = refusal_as g.R.Read.faulty _ _ _ c.refuse.ensures.same (wrong_string _ _ _ _ c.in_ok-code.ensures.ok c.in_default.not-Str8 c.in_default.not-Str32)

pub returns-in_default-clause-named : goal.returns-in_default-clause-named
returns-in_default-clause-named g c = names_wrong g.R.Read.faulty string_kind _ _ _ _ _ c.refuse.ensures.same c.in_ok-code.ensures.ok (not_string _ c.in_default.not-Str8 c.in_default.not-Str32)
