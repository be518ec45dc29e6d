use Rattle.std.proofs.Common.{refl, ℕ, sym, subst, rules}
use Rattle.serde_amqp_item.specs.Item.{scalar, double}
use Rattle.serde_amqp_item.specs.declared.codes.EncodingCodes.TheVariants.{Double}
use Rattle.serde_amqp_item.specs.Kind.{double_kind}
use Rattle.serde_amqp_de.specs.Reads.{Reads, at_of}
use Rattle.serde_amqp_de.proofs.Heads.{carried, no_head_refuses, refusal_as}
use Rattle.serde_amqp_de.proofs.Fixed.{not_double, double_read, short_double, wrong_double}
use Rattle.serde_amqp_de.proofs.Naming.{names_few, names_on, names_wrong}
use Rattle.serde_amqp_de.proofs.deserializer.Deserializer.deserialize_f64.Goals as goal

pub returns-in_err-code-clause-refused : goal.returns-in_err-code-clause-refused
returns-in_err-code-clause-refused g c = carried g.R.Read.faulty _ c.in_err-code.field-0.0 _ _ c.from_residual.ensures.1 (no_head_refuses _ _ _) c.in_err-code.ensures.refused

pub returns-in_err-code-clause-named : goal.returns-in_err-code-clause-named
returns-in_err-code-clause-named g c = names_on g.R.Read.faulty _ double_kind _ _ _ c.from_residual.ensures.1 (c.in_err-code.ensures.named double_kind)

pub returns-in_err-next_u64-in-Double-clause-refused :
    goal.returns-in_err-next_u64-in-Double-clause-refused
returns-in_err-next_u64-in-Double-clause-refused g c = carried g.R.Read.faulty _ c.in_err-next_u64-in-Double.field-0.0 _ _ c.from_residual-in_err-next_u64-in-Double.ensures.1 (short_double _ _ _ (rw c.in-Double.is at c.in_ok-code.ensures.ok)) c.in_err-next_u64-in-Double.ensures.end

pub returns-in_err-next_u64-in-Double-clause-named : goal.returns-in_err-next_u64-in-Double-clause-named
returns-in_err-next_u64-in-Double-clause-named g c = names_few g.R.Read.faulty _ double_kind _ _ _ Double _ _ c.from_residual-in_err-next_u64-in-Double.ensures.1 (rw c.in-Double.is at c.in_ok-code.ensures.ok) refl (λ p. p) c.in_err-next_u64-in-Double.ensures.end

pub returns-in_ok-next_u64-in-Double-clause-ok : goal.returns-in_ok-next_u64-in-Double-clause-ok
returns-in_ok-next_u64-in-Double-clause-ok g c = subst (λ (n : ℕ). Reads c.args.self.now.element (at_of g.R.Read.rest c.args.self.now) (at_of g.R.Read.rest c.next_u64.new.self) (scalar (double n))) (sym c.from_bits.ensures) (double_read _ _ _ _ _ (rw c.in-Double.is at c.in_ok-code.ensures.ok) c.in_ok-next_u64-in-Double.ensures.ok (search rules))

pub returns-in_default-clause-refused : goal.returns-in_default-clause-refused
returns-in_default-clause-refused g c = refusal_as g.R.Read.faulty _ _ _ c.refuse.ensures.same (wrong_double _ _ _ _ c.in_ok-code.ensures.ok c.in_default.not-Double)

pub returns-in_default-clause-named : goal.returns-in_default-clause-named
returns-in_default-clause-named g c = names_wrong g.R.Read.faulty double_kind _ _ _ _ _ c.refuse.ensures.same c.in_ok-code.ensures.ok (not_double _ c.in_default.not-Double)
