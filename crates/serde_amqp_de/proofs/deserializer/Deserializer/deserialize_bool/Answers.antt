use Rattle.std.proofs.Common.{refl}
use Rattle.serde_amqp_item.specs.declared.codes.EncodingCodes.TheVariants.{Boolean}
use Rattle.serde_amqp_item.specs.Wire.{boolean_at}
use Rattle.serde_amqp_item.specs.Kind.{boolean_kind}
use Rattle.serde_amqp_de.specs.Reads.{at_of}
use Rattle.serde_amqp_de.proofs.Heads.{carried, no_head_refuses, refusal_as}
use Rattle.serde_amqp_de.proofs.Scalars.{not_boolean, true_read, false_read, no_boolean, no_truth, short_boolean, wrong_boolean}
use Rattle.serde_amqp_de.proofs.Naming.{names_no_value, names_few, names_on, names_wrong, nothing_left}
use Rattle.serde_amqp_de.proofs.deserializer.Deserializer.deserialize_bool.Goals as goal

pub returns-in_err-code-clause-refused : goal.returns-in_err-code-clause-refused
returns-in_err-code-clause-refused g c = carried g.R.Read.faulty _ c.in_err-code.field-0.0 _ _ c.from_residual.ensures.1 (no_head_refuses _ _ _) c.in_err-code.ensures.refused

pub returns-in_err-code-clause-named : goal.returns-in_err-code-clause-named
returns-in_err-code-clause-named g c = names_on g.R.Read.faulty _ boolean_kind _ _ _ c.from_residual.ensures.1 (c.in_err-code.ensures.named boolean_kind)

pub returns-in-BooleanTrue-clause-ok : goal.returns-in-BooleanTrue-clause-ok
returns-in-BooleanTrue-clause-ok g c = true_read _ _ _ (rw c.in-BooleanTrue.is at c.in_ok-code.ensures.ok)

pub returns-in-BooleanFalse-clause-ok : goal.returns-in-BooleanFalse-clause-ok
returns-in-BooleanFalse-clause-ok g c = false_read _ _ _ (rw c.in-BooleanFalse.is at c.in_ok-code.ensures.ok)

pub returns-in_err-byte-in-Boolean-clause-refused :
    goal.returns-in_err-byte-in-Boolean-clause-refused
returns-in_err-byte-in-Boolean-clause-refused g c = carried g.R.Read.faulty _ c.in_err-byte-in-Boolean.field-0.0 _ _ c.from_residual-in_err-byte-in-Boolean.ensures.1 (short_boolean _ _ _ (rw c.in-Boolean.is at c.in_ok-code.ensures.ok)) c.in_err-byte-in-Boolean.ensures.end

pub returns-in_err-byte-in-Boolean-clause-named : goal.returns-in_err-byte-in-Boolean-clause-named
returns-in_err-byte-in-Boolean-clause-named g c = names_few g.R.Read.faulty _ boolean_kind _ _ _ Boolean _ _ c.from_residual-in_err-byte-in-Boolean.ensures.1 (rw c.in-Boolean.is at c.in_ok-code.ensures.ok) refl (λ p. nothing_left _ p) c.in_err-byte-in-Boolean.ensures.end

pub returns-then-byte-gt1-clause-refused : goal.returns-then-byte-gt1-clause-refused
returns-then-byte-gt1-clause-refused g c =
    let head = rw c.in-Boolean.is at c.in_ok-code.ensures.ok in
    refusal_as g.R.Read.faulty _ _ _ c.refuse.ensures.same (no_boolean c.args.self.now.element (at_of g.R.Read.rest c.args.self.now) (at_of g.R.Read.rest c.code.new.self) (at_of g.R.Read.rest c.next_byte.new.self) c.in_ok-byte-in-Boolean.byte head c.in_ok-byte-in-Boolean.ensures.ok c.if-byte-gt1.true)

pub returns-in_default-clause-refused : goal.returns-in_default-clause-refused
returns-in_default-clause-refused g c = refusal_as g.R.Read.faulty _ _ _ c.refuse-in_default.ensures.same (wrong_boolean _ _ _ _ c.in_ok-code.ensures.ok c.in_default.not-BooleanTrue c.in_default.not-BooleanFalse c.in_default.not-Boolean)

pub returns-in_default-clause-named : goal.returns-in_default-clause-named
returns-in_default-clause-named g c = names_wrong g.R.Read.faulty boolean_kind _ _ _ _ _ c.refuse-in_default.ensures.same c.in_ok-code.ensures.ok (not_boolean _ c.in_default.not-BooleanTrue c.in_default.not-BooleanFalse c.in_default.not-Boolean)

pub returns-then-byte-gt1-clause-named : goal.returns-then-byte-gt1-clause-named
returns-then-byte-gt1-clause-named g c = names_no_value g.R.Read.faulty boolean_kind _ _ _ _ Boolean 1 boolean_at _ _ c.refuse.ensures.same (rw c.in-Boolean.is at c.in_ok-code.ensures.ok) refl refl c.in_ok-byte-in-Boolean.ensures.ok refl (no_truth _ c.if-byte-gt1.true)
