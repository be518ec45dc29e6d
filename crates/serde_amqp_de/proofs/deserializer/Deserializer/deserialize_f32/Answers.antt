use Rattle.std.proofs.Common.{refl, ℕ, sym, subst, rules}
use Rattle.serde_amqp_item.specs.Item.{scalar, float}
use Rattle.serde_amqp_item.specs.declared.codes.EncodingCodes.TheVariants.{Float}
use Rattle.serde_amqp_item.specs.Kind.{float_kind}
use Rattle.serde_amqp_de.specs.Reads.{Reads, at_of}
use Rattle.serde_amqp_de.proofs.Heads.{carried, no_head_refuses, refusal_as}
use Rattle.serde_amqp_de.proofs.Fixed.{not_float, float_read, short_float, wrong_float}
use Rattle.serde_amqp_de.proofs.Naming.{names_few, names_on, names_wrong}
use Rattle.serde_amqp_de.proofs.deserializer.Deserializer.deserialize_f32.Goals as goal

pub returns-in_err-code-clause-refused : goal.returns-in_err-code-clause-refused
returns-in_err-code-clause-refused g c = carried g.R.Read.faulty _ c.in_err-code.field-0.0 _ _ c.from_residual.ensures.1 (no_head_refuses _ _ _) c.in_err-code.ensures.refused

pub returns-in_err-code-clause-named : goal.returns-in_err-code-clause-named
returns-in_err-code-clause-named g c = names_on g.R.Read.faulty _ float_kind _ _ _ c.from_residual.ensures.1 (c.in_err-code.ensures.named float_kind)

pub returns-in_err-next_u32-in-Float-clause-refused :
    goal.returns-in_err-next_u32-in-Float-clause-refused
returns-in_err-next_u32-in-Float-clause-refused g c = carried g.R.Read.faulty _ c.in_err-next_u32-in-Float.field-0.0 _ _ c.from_residual-in_err-next_u32-in-Float.ensures.1 (short_float _ _ _ (rw c.in-Float.is at c.in_ok-code.ensures.ok)) c.in_err-next_u32-in-Float.ensures.end

pub returns-in_err-next_u32-in-Float-clause-named : goal.returns-in_err-next_u32-in-Float-clause-named
returns-in_err-next_u32-in-Float-clause-named g c = names_few g.R.Read.faulty _ float_kind _ _ _ Float _ _ c.from_residual-in_err-next_u32-in-Float.ensures.1 (rw c.in-Float.is at c.in_ok-code.ensures.ok) refl (λ p. p) c.in_err-next_u32-in-Float.ensures.end

pub returns-in_ok-next_u32-in-Float-clause-ok : goal.returns-in_ok-next_u32-in-Float-clause-ok
returns-in_ok-next_u32-in-Float-clause-ok g c = subst (λ (n : ℕ). Reads c.args.self.now.element (at_of g.R.Read.rest c.args.self.now) (at_of g.R.Read.rest c.next_u32.new.self) (scalar (float n))) (sym c.from_bits.ensures) (float_read _ _ _ _ _ (rw c.in-Float.is at c.in_ok-code.ensures.ok) c.in_ok-next_u32-in-Float.ensures.ok (search rules))

pub returns-in_default-clause-refused : goal.returns-in_default-clause-refused
returns-in_default-clause-refused g c = refusal_as g.R.Read.faulty _ _ _ c.refuse.ensures.same (wrong_float _ _ _ _ c.in_ok-code.ensures.ok c.in_default.not-Float)

pub returns-in_default-clause-named : goal.returns-in_default-clause-named
returns-in_default-clause-named g c = names_wrong g.R.Read.faulty float_kind _ _ _ _ _ c.refuse.ensures.same c.in_ok-code.ensures.ok (not_float _ c.in_default.not-Float)
