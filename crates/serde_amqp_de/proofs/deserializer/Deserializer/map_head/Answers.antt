use Rattle.std.proofs.Common.{refl, inl, inr, arith}
use Rattle.serde_amqp_item.specs.declared.codes.EncodingCodes.TheVariants.{Map8, Map32}
use Rattle.serde_amqp_item.specs.Kind.{map_kind}
use Rattle.serde_amqp_de.specs.Reads.{at_of}
use Rattle.serde_amqp_de.proofs.Heads.{carried, no_head_refuses, refusal_as}
use Rattle.serde_amqp_de.proofs.Maps.{not_map, map8, map32, small_map8, small_map32, long_map32, odd_map8, odd_map32, short_map8, short_map32, wrong_map}
use Rattle.serde_amqp_de.proofs.Naming.{counted_of, names_few, names_length, names_on, names_wrong, said}
use Rattle.serde_amqp_de.proofs.deserializer.Deserializer.map_head.Goals as goal

pub returns-then-size-lt1-clause-refused : goal.returns-then-size-lt1-clause-refused
returns-then-size-lt1-clause-refused g c =
    let head = rw c.in-Map8.is at c.in_ok-code.ensures.ok in
    refusal_as g.R.Read.faulty _ _ _ c.refuse.ensures.same (small_map8 c.args.self.now.element (at_of g.R.Read.rest c.args.self.now) (at_of g.R.Read.rest c.code.new.self) (at_of g.R.Read.rest c.count8.new.self) c.in_ok-size-in-Map8.size c.in_ok-size-in-Map8.count head c.in_ok-size-in-Map8.ensures.ok c.if-size-lt1.true)

pub returns-then-count-ne0-clause-refused : goal.returns-then-count-ne0-clause-refused
returns-then-count-ne0-clause-refused g c =
    let head = rw c.in-Map8.is at c.in_ok-code.ensures.ok in
    refusal_as g.R.Read.faulty _ _ _ c.refuse-then-count-ne0.ensures.same (odd_map8 c.args.self.now.element (at_of g.R.Read.rest c.args.self.now) (at_of g.R.Read.rest c.code.new.self) (at_of g.R.Read.rest c.count8.new.self) c.in_ok-size-in-Map8.size c.in_ok-size-in-Map8.count head c.in_ok-size-in-Map8.ensures.ok c.if-count-ne0.true)

pub returns-then-count-gt-MAX_ARRAY_COUNT-clause-refused :
    goal.returns-then-count-gt-MAX_ARRAY_COUNT-clause-refused
returns-then-count-gt-MAX_ARRAY_COUNT-clause-refused g c =
    let head = rw c.in-Map32.is at c.in_ok-code.ensures.ok in
    refusal_as g.R.Read.faulty _ _ _ c.refuse-then-count-gt-MAX_ARRAY_COUNT.ensures.same (long_map32 c.args.self.now.element (at_of g.R.Read.rest c.args.self.now) (at_of g.R.Read.rest c.code.new.self) (at_of g.R.Read.rest c.count32.new.self) c.in_ok-size-in-Map32.size c.in_ok-size-in-Map32.count head c.in_ok-size-in-Map32.ensures.ok c.if-count-gt-MAX_ARRAY_COUNT.true)

pub returns-then-count-ne0-2-clause-refused : goal.returns-then-count-ne0-2-clause-refused
returns-then-count-ne0-2-clause-refused g c =
    let head = rw c.in-Map32.is at c.in_ok-code.ensures.ok in
    refusal_as g.R.Read.faulty _ _ _ c.refuse-then-count-ne0-2.ensures.same (odd_map32 c.args.self.now.element (at_of g.R.Read.rest c.args.self.now) (at_of g.R.Read.rest c.code.new.self) (at_of g.R.Read.rest c.count32.new.self) c.in_ok-size-in-Map32.size c.in_ok-size-in-Map32.count head c.in_ok-size-in-Map32.ensures.ok c.if-count-ne0-2.true)

pub returns-in_err-code-clause-refused : goal.returns-in_err-code-clause-refused
returns-in_err-code-clause-refused g c = carried g.R.Read.faulty _ c.in_err-code.field-0.0 _ _ c.from_residual.ensures.1 (no_head_refuses _ _ _) c.in_err-code.ensures.refused

pub returns-in_err-size-in-Map8-clause-refused : goal.returns-in_err-size-in-Map8-clause-refused
returns-in_err-size-in-Map8-clause-refused g c = carried g.R.Read.faulty _ c.in_err-size-in-Map8.field-0.0 _ _ c.from_residual-in_err-size-in-Map8.ensures.1 (short_map8 _ _ _ (rw c.in-Map8.is at c.in_ok-code.ensures.ok)) c.in_err-size-in-Map8.ensures.end

pub returns-in_err-size-in-Map32-clause-refused : goal.returns-in_err-size-in-Map32-clause-refused
returns-in_err-size-in-Map32-clause-refused g c = carried g.R.Read.faulty _ c.in_err-size-in-Map32.field-0.0 _ _ c.from_residual-in_err-size-in-Map32.ensures.1 (short_map32 _ _ _ (rw c.in-Map32.is at c.in_ok-code.ensures.ok)) c.in_err-size-in-Map32.ensures.end

pub returns-then-size-lt4-clause-refused : goal.returns-then-size-lt4-clause-refused
returns-then-size-lt4-clause-refused g c = refusal_as g.R.Read.faulty _ _ _ c.refuse-then-size-lt4.ensures.same (small_map32 _ _ _ _ _ _ (rw c.in-Map32.is at c.in_ok-code.ensures.ok) c.in_ok-size-in-Map32.ensures.ok c.if-size-lt4.true)

pub returns-else-count-ne0-clause-ok : goal.returns-else-count-ne0-clause-ok
returns-else-count-ne0-clause-ok g c = map8 _ _ _ _ _ _ _ (rw c.in-Map8.is at c.in_ok-code.ensures.ok) c.in_ok-size-in-Map8.ensures.ok (omega (arith, c.if-size-lt1.false)) c.if-count-ne0.false

pub returns-else-count-ne0-2-clause-ok : goal.returns-else-count-ne0-2-clause-ok
returns-else-count-ne0-2-clause-ok g c = map32 _ _ _ _ _ _ _ (rw c.in-Map32.is at c.in_ok-code.ensures.ok) c.in_ok-size-in-Map32.ensures.ok (omega (arith, c.if-size-lt4.false)) (omega (arith, c.if-count-gt-MAX_ARRAY_COUNT.false)) c.if-count-ne0-2.false

pub returns-in_default-clause-refused : goal.returns-in_default-clause-refused
returns-in_default-clause-refused g c = refusal_as g.R.Read.faulty _ _ _ c.refuse-in_default.ensures.same (wrong_map _ _ _ _ c.in_ok-code.ensures.ok c.in_default.not-Map8 c.in_default.not-Map32)

pub returns-in_err-code-clause-named : goal.returns-in_err-code-clause-named
returns-in_err-code-clause-named g c = names_on g.R.Read.faulty _ map_kind _ _ _ c.from_residual.ensures.1 (c.in_err-code.ensures.named map_kind)

pub returns-in_err-size-in-Map8-clause-named : goal.returns-in_err-size-in-Map8-clause-named
returns-in_err-size-in-Map8-clause-named g c = names_few g.R.Read.faulty _ map_kind _ _ _ Map8 _ _ c.from_residual-in_err-size-in-Map8.ensures.1 (rw c.in-Map8.is at c.in_ok-code.ensures.ok) refl (λ p. p) c.in_err-size-in-Map8.ensures.end

pub returns-in_err-size-in-Map32-clause-named : goal.returns-in_err-size-in-Map32-clause-named
returns-in_err-size-in-Map32-clause-named g c = names_few g.R.Read.faulty _ map_kind _ _ _ Map32 _ _ c.from_residual-in_err-size-in-Map32.ensures.1 (rw c.in-Map32.is at c.in_ok-code.ensures.ok) refl (λ p. p) c.in_err-size-in-Map32.ensures.end

pub returns-then-size-lt1-clause-named : goal.returns-then-size-lt1-clause-named
returns-then-size-lt1-clause-named g c = names_length g.R.Read.faulty map_kind _ _ _ Map8 _ c.refuse.ensures.same (rw c.in-Map8.is at c.in_ok-code.ensures.ok) refl (counted_of _ _ _ _ _ _ c.in_ok-size-in-Map8.ensures.ok (inl c.if-size-lt1.true))

pub returns-then-count-ne0-clause-named : goal.returns-then-count-ne0-clause-named
returns-then-count-ne0-clause-named g c = names_length g.R.Read.faulty map_kind _ _ _ Map8 _ c.refuse-then-count-ne0.ensures.same (rw c.in-Map8.is at c.in_ok-code.ensures.ok) refl (counted_of _ _ _ _ _ _ c.in_ok-size-in-Map8.ensures.ok (inr (inr c.if-count-ne0.true)))

pub returns-then-size-lt4-clause-named : goal.returns-then-size-lt4-clause-named
returns-then-size-lt4-clause-named g c = names_length g.R.Read.faulty map_kind _ _ _ Map32 _ c.refuse-then-size-lt4.ensures.same (rw c.in-Map32.is at c.in_ok-code.ensures.ok) refl (counted_of _ _ _ _ _ _ c.in_ok-size-in-Map32.ensures.ok (inl c.if-size-lt4.true))

pub returns-then-count-gt-MAX_ARRAY_COUNT-clause-named : goal.returns-then-count-gt-MAX_ARRAY_COUNT-clause-named
returns-then-count-gt-MAX_ARRAY_COUNT-clause-named g c = names_length g.R.Read.faulty map_kind _ _ _ Map32 _ c.refuse-then-count-gt-MAX_ARRAY_COUNT.ensures.same (rw c.in-Map32.is at c.in_ok-code.ensures.ok) refl (counted_of _ _ _ _ _ _ c.in_ok-size-in-Map32.ensures.ok (inr (inl c.if-count-gt-MAX_ARRAY_COUNT.true)))

pub returns-then-count-ne0-2-clause-named : goal.returns-then-count-ne0-2-clause-named
returns-then-count-ne0-2-clause-named g c = names_length g.R.Read.faulty map_kind _ _ _ Map32 _ c.refuse-then-count-ne0-2.ensures.same (rw c.in-Map32.is at c.in_ok-code.ensures.ok) refl (counted_of _ _ _ _ _ _ c.in_ok-size-in-Map32.ensures.ok (inr (inr c.if-count-ne0-2.true)))

pub returns-in_default-clause-named : goal.returns-in_default-clause-named
returns-in_default-clause-named g c = names_wrong g.R.Read.faulty map_kind _ _ _ _ _ c.refuse-in_default.ensures.same c.in_ok-code.ensures.ok (not_map _ c.in_default.not-Map8 c.in_default.not-Map32)

pub returns-else-count-ne0-clause-said : goal.returns-else-count-ne0-clause-said
returns-else-count-ne0-clause-said g c = said map_kind _ _ _ _ Map8 _ _ _ (rw c.in-Map8.is at c.in_ok-code.ensures.ok)
    refl c.in_ok-size-in-Map8.ensures.ok (λ s. s)

pub returns-else-count-ne0-2-clause-said : goal.returns-else-count-ne0-2-clause-said
returns-else-count-ne0-2-clause-said g c = said map_kind _ _ _ _ Map32 _ _ _
    (rw c.in-Map32.is at c.in_ok-code.ensures.ok) refl c.in_ok-size-in-Map32.ensures.ok (λ s. s)
