use Rattle.std.proofs.Common.{refl, sym, ◌∙◌, subst, rules}
use Rattle.std.specs.Prelude.{ℤ}
use Rattle.std.specs.Int.{w8, w64}
use Rattle.std.proofs.lemmas.Int.{to_z-of_z}
use Rattle.serde_amqp_item.specs.Item.{scalar, long}
use Rattle.serde_amqp_item.specs.declared.codes.EncodingCodes.TheVariants.{Long, SmallLong}
use Rattle.serde_amqp_item.specs.Kind.{long_kind}
use Rattle.serde_amqp_de.specs.Reads.{Reads, at_of}
use Rattle.serde_amqp_de.proofs.Heads.{carried, no_head_refuses, refusal_as}
use Rattle.serde_amqp_de.proofs.Fixed.{not_long, long_small, long_wide, short_long8, short_long64, wrong_long}
use Rattle.serde_amqp_de.proofs.Naming.{names_few, names_on, names_wrong, nothing_left}
use Rattle.serde_amqp_de.proofs.deserializer.Deserializer.deserialize_i64.Goals as goal

pub returns-in_ok-next_byte-in-SmallLong-clause-ok :
    goal.returns-in_ok-next_byte-in-SmallLong-clause-ok
returns-in_ok-next_byte-in-SmallLong-clause-ok g c =
    let head = rw c.in-SmallLong.is at c.in_ok-code.ensures.ok in
    let narrow = to_z-of_z w8 c.cast_signed.result (record { sfits = c.cast_signed.type_inv }) in
    let wide = to_z-of_z w64 c.from.result (record { sfits = c.from.type_inv }) in
    let same = wide ∙ (c.from.ensures ∙ (narrow ∙ c.cast_signed.ensures)) in
    subst (λ (z : ℤ). Reads c.args.self.now.element (at_of g.R.Read.rest c.args.self.now) (at_of g.R.Read.rest c.next_byte.new.self) (scalar (long z))) (sym same)
    (long_small c.args.self.now.element (at_of g.R.Read.rest c.args.self.now) (at_of g.R.Read.rest c.code.new.self) (at_of g.R.Read.rest c.next_byte.new.self) c.in_ok-next_byte-in-SmallLong.field-0 head c.in_ok-next_byte-in-SmallLong.ensures.ok)

pub returns-in_err-code-clause-refused : goal.returns-in_err-code-clause-refused
returns-in_err-code-clause-refused g c = carried g.R.Read.faulty _ c.in_err-code.field-0.0 _ _ c.from_residual.ensures.1 (no_head_refuses _ _ _) c.in_err-code.ensures.refused

pub returns-in_err-code-clause-named : goal.returns-in_err-code-clause-named
returns-in_err-code-clause-named g c = names_on g.R.Read.faulty _ long_kind _ _ _ c.from_residual.ensures.1 (c.in_err-code.ensures.named long_kind)

pub returns-in_err-next_byte-in-SmallLong-clause-refused :
    goal.returns-in_err-next_byte-in-SmallLong-clause-refused
returns-in_err-next_byte-in-SmallLong-clause-refused g c = carried g.R.Read.faulty _ c.in_err-next_byte-in-SmallLong.field-0.0 _ _ c.from_residual-in_err-next_byte-in-SmallLong.ensures.1 (short_long8 _ _ _ (rw c.in-SmallLong.is at c.in_ok-code.ensures.ok)) c.in_err-next_byte-in-SmallLong.ensures.end

pub returns-in_err-next_byte-in-SmallLong-clause-named : goal.returns-in_err-next_byte-in-SmallLong-clause-named
returns-in_err-next_byte-in-SmallLong-clause-named g c = names_few g.R.Read.faulty _ long_kind _ _ _ SmallLong _ _ c.from_residual-in_err-next_byte-in-SmallLong.ensures.1 (rw c.in-SmallLong.is at c.in_ok-code.ensures.ok) refl (λ p. nothing_left _ p) c.in_err-next_byte-in-SmallLong.ensures.end

pub returns-in_err-next_u64-in-Long-clause-refused :
    goal.returns-in_err-next_u64-in-Long-clause-refused
returns-in_err-next_u64-in-Long-clause-refused g c = carried g.R.Read.faulty _ c.in_err-next_u64-in-Long.field-0.0 _ _ c.from_residual-in_err-next_u64-in-Long.ensures.1 (short_long64 _ _ _ (rw c.in-Long.is at c.in_ok-code.ensures.ok)) c.in_err-next_u64-in-Long.ensures.end

pub returns-in_err-next_u64-in-Long-clause-named : goal.returns-in_err-next_u64-in-Long-clause-named
returns-in_err-next_u64-in-Long-clause-named g c = names_few g.R.Read.faulty _ long_kind _ _ _ Long _ _ c.from_residual-in_err-next_u64-in-Long.ensures.1 (rw c.in-Long.is at c.in_ok-code.ensures.ok) refl (λ p. p) c.in_err-next_u64-in-Long.ensures.end

pub returns-in_ok-next_u64-in-Long-clause-ok : goal.returns-in_ok-next_u64-in-Long-clause-ok
returns-in_ok-next_u64-in-Long-clause-ok g c =
    let same = to_z-of_z w64 c.cast_signed-in-Long.result (record { sfits = c.cast_signed-in-Long.type_inv }) ∙ c.cast_signed-in-Long.ensures in
    subst (λ (z : ℤ). Reads c.args.self.now.element (at_of g.R.Read.rest c.args.self.now) (at_of g.R.Read.rest c.next_u64.new.self) (scalar (long z))) (sym same)
    (long_wide _ _ _ _ _ (rw c.in-Long.is at c.in_ok-code.ensures.ok) c.in_ok-next_u64-in-Long.ensures.ok (search rules))

pub returns-in_default-clause-refused : goal.returns-in_default-clause-refused
returns-in_default-clause-refused g c = refusal_as g.R.Read.faulty _ _ _ c.refuse.ensures.same (wrong_long _ _ _ _ c.in_ok-code.ensures.ok c.in_default.not-Long c.in_default.not-SmallLong)

pub returns-in_default-clause-named : goal.returns-in_default-clause-named
returns-in_default-clause-named g c = names_wrong g.R.Read.faulty long_kind _ _ _ _ _ c.refuse.ensures.same c.in_ok-code.ensures.ok (not_long _ c.in_default.not-Long c.in_default.not-SmallLong)
