use Rattle.std.proofs.Common.{refl, rules}
use Rattle.serde_amqp_item.specs.declared.codes.EncodingCodes.TheVariants.{Char}
use Rattle.serde_amqp_item.specs.Kind.{char_kind}
use Rattle.serde_amqp_de.specs.Reads.{at_of}
use Rattle.serde_amqp_de.proofs.Heads.{carried, no_head_refuses, refusal_as}
use Rattle.serde_amqp_de.proofs.Fixed.{not_char, no_char, no_character, short_char, wrong_char}
use Rattle.serde_amqp_de.proofs.Naming.{names_no_value, names_few, names_on, names_wrong}
use Rattle.serde_amqp_de.proofs.deserializer.Deserializer.deserialize_char.Goals as goal

pub returns-in-None-clause-refused : goal.returns-in-None-clause-refused
returns-in-None-clause-refused g c =
    let head = rw c.in-Char.is at c.in_ok-code.ensures.ok in
    refusal_as g.R.Read.faulty _ _ _ c.refuse.ensures.same (no_char c.args.self.now.element (at_of g.R.Read.rest c.args.self.now) (at_of g.R.Read.rest c.code.new.self) (at_of g.R.Read.rest c.next_u32.new.self) c.in_ok-code-in-Char.code head c.in_ok-code-in-Char.ensures.ok (search rules) c.in-None.ensures.value)

pub returns-in_err-code-clause-refused : goal.returns-in_err-code-clause-refused
returns-in_err-code-clause-refused g c = carried g.R.Read.faulty _ c.in_err-code.field-0.0 _ _ c.from_residual.ensures.1 (no_head_refuses _ _ _) c.in_err-code.ensures.refused

pub returns-in_err-code-clause-named : goal.returns-in_err-code-clause-named
returns-in_err-code-clause-named g c = names_on g.R.Read.faulty _ char_kind _ _ _ c.from_residual.ensures.1 (c.in_err-code.ensures.named char_kind)

pub returns-in_err-code-in-Char-clause-refused : goal.returns-in_err-code-in-Char-clause-refused
returns-in_err-code-in-Char-clause-refused g c = carried g.R.Read.faulty _ c.in_err-code-in-Char.field-0.0 _ _ c.from_residual-in_err-code-in-Char.ensures.1 (short_char _ _ _ (rw c.in-Char.is at c.in_ok-code.ensures.ok)) c.in_err-code-in-Char.ensures.end

pub returns-in_err-code-in-Char-clause-named : goal.returns-in_err-code-in-Char-clause-named
returns-in_err-code-in-Char-clause-named g c = names_few g.R.Read.faulty _ char_kind _ _ _ Char _ _ c.from_residual-in_err-code-in-Char.ensures.1 (rw c.in-Char.is at c.in_ok-code.ensures.ok) refl (λ p. p) c.in_err-code-in-Char.ensures.end

pub returns-in_default-clause-refused : goal.returns-in_default-clause-refused
returns-in_default-clause-refused g c = refusal_as g.R.Read.faulty _ _ _ c.refuse-in_default.ensures.same (wrong_char _ _ _ _ c.in_ok-code.ensures.ok c.in_default.not-Char)

pub returns-in_default-clause-named : goal.returns-in_default-clause-named
returns-in_default-clause-named g c = names_wrong g.R.Read.faulty char_kind _ _ _ _ _ c.refuse-in_default.ensures.same c.in_ok-code.ensures.ok (not_char _ c.in_default.not-Char)

pub returns-in-None-clause-named : goal.returns-in-None-clause-named
returns-in-None-clause-named g c = names_no_value g.R.Read.faulty char_kind _ _ _ _ Char 4 _ _ _ c.refuse.ensures.same (rw c.in-Char.is at c.in_ok-code.ensures.ok) refl refl c.in_ok-code-in-Char.ensures.ok refl (no_character c.in_ok-code-in-Char.code (search rules) c.in-None.ensures.value)
