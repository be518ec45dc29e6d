use Rattle.std.proofs.Common.{refl, sym, ◌∙◌, subst, rules}
use Rattle.std.specs.Prelude.{ℤ}
use Rattle.std.specs.Int.{w16}
use Rattle.std.proofs.lemmas.Int.{to_z-of_z}
use Rattle.serde_amqp_item.specs.Item.{scalar, short}
use Rattle.serde_amqp_item.specs.declared.codes.EncodingCodes.TheVariants.{Short}
use Rattle.serde_amqp_item.specs.Kind.{short_kind}
use Rattle.serde_amqp_de.specs.Reads.{Reads, at_of}
use Rattle.serde_amqp_de.proofs.Heads.{carried, no_head_refuses, refusal_as}
use Rattle.serde_amqp_de.proofs.Fixed.{not_short, short_read, short_short, wrong_short}
use Rattle.serde_amqp_de.proofs.Naming.{names_few, names_on, names_wrong}
use Rattle.serde_amqp_de.proofs.deserializer.Deserializer.deserialize_i16.Goals as goal

pub returns-in_err-code-clause-refused : goal.returns-in_err-code-clause-refused
returns-in_err-code-clause-refused g c = carried g.R.Read.faulty _ c.in_err-code.field-0.0 _ _ c.from_residual.ensures.1 (no_head_refuses _ _ _) c.in_err-code.ensures.refused

pub returns-in_err-code-clause-named : goal.returns-in_err-code-clause-named
returns-in_err-code-clause-named g c = names_on g.R.Read.faulty _ short_kind _ _ _ c.from_residual.ensures.1 (c.in_err-code.ensures.named short_kind)

pub returns-in_err-next_u16-in-Short-clause-refused :
    goal.returns-in_err-next_u16-in-Short-clause-refused
returns-in_err-next_u16-in-Short-clause-refused g c = carried g.R.Read.faulty _ c.in_err-next_u16-in-Short.field-0.0 _ _ c.from_residual-in_err-next_u16-in-Short.ensures.1 (short_short _ _ _ (rw c.in-Short.is at c.in_ok-code.ensures.ok)) c.in_err-next_u16-in-Short.ensures.end

pub returns-in_err-next_u16-in-Short-clause-named : goal.returns-in_err-next_u16-in-Short-clause-named
returns-in_err-next_u16-in-Short-clause-named g c = names_few g.R.Read.faulty _ short_kind _ _ _ Short _ _ c.from_residual-in_err-next_u16-in-Short.ensures.1 (rw c.in-Short.is at c.in_ok-code.ensures.ok) refl (λ p. p) c.in_err-next_u16-in-Short.ensures.end

pub returns-in_ok-next_u16-in-Short-clause-ok : goal.returns-in_ok-next_u16-in-Short-clause-ok
returns-in_ok-next_u16-in-Short-clause-ok g c =
    let same = to_z-of_z w16 c.cast_signed.result (record { sfits = c.cast_signed.type_inv }) ∙ c.cast_signed.ensures in
    subst (λ (z : ℤ). Reads c.args.self.now.element (at_of g.R.Read.rest c.args.self.now) (at_of g.R.Read.rest c.next_u16.new.self) (scalar (short z))) (sym same) (short_read _ _ _ _ _ (rw c.in-Short.is at c.in_ok-code.ensures.ok) c.in_ok-next_u16-in-Short.ensures.ok (search rules))

pub returns-in_default-clause-refused : goal.returns-in_default-clause-refused
returns-in_default-clause-refused g c = refusal_as g.R.Read.faulty _ _ _ c.refuse.ensures.same (wrong_short _ _ _ _ c.in_ok-code.ensures.ok c.in_default.not-Short)

pub returns-in_default-clause-named : goal.returns-in_default-clause-named
returns-in_default-clause-named g c = names_wrong g.R.Read.faulty short_kind _ _ _ _ _ c.refuse.ensures.same c.in_ok-code.ensures.ok (not_short _ c.in_default.not-Short)
