use Rattle.std.proofs.Common.{refl, inl, inr, arith}
use Rattle.serde_amqp_item.specs.declared.codes.EncodingCodes.TheVariants.{Array8, Array32}
use Rattle.serde_amqp_item.specs.Kind.{array_kind}
use Rattle.serde_amqp_de.specs.Reads.{at_of}
use Rattle.serde_amqp_de.proofs.Heads.{carried, no_head_refuses, refusal_as}
use Rattle.serde_amqp_de.proofs.Arrays.{not_array, four_or_less, counted8, counted32, array8, array32, small_array8, not_bare, bare_array, small_array32, long_array32, no_elements8, no_elements32, short_array8, short_array32, wrong_array}
use Rattle.serde_amqp_de.proofs.Naming.{counted_of, names_element_on, names_few, names_length, names_on, names_wrong}
use Rattle.serde_amqp_de.proofs.deserializer.Deserializer.array_head.Goals as goal

pub returns-then-size-lt1-clause-refused : goal.returns-then-size-lt1-clause-refused
returns-then-size-lt1-clause-refused g c =
    let h = counted8 c.args.self.now.element (at_of g.R.Read.rest c.args.self.now) (at_of g.R.Read.rest c.code.new.self) (at_of g.R.Read.rest c.count8.new.self) c.in_ok-size-in-Array8.size c.in_ok-size-in-Array8.count (rw c.in-Array8.is at c.in_ok-code.ensures.ok) c.in_ok-size-in-Array8.ensures.ok in
    refusal_as g.R.Read.faulty _ _ _ c.refuse.ensures.same (small_array8 c.args.self.now.element (at_of g.R.Read.rest c.args.self.now) (at_of g.R.Read.rest c.code.new.self) (at_of g.R.Read.rest c.count8.new.self) c.in_ok-size-in-Array8.size c.in_ok-size-in-Array8.count h c.if-size-lt1.true)

pub returns-then-count-ne0-clause-refused : goal.returns-then-count-ne0-clause-refused
returns-then-count-ne0-clause-refused g c =
    let h = counted8 c.args.self.now.element (at_of g.R.Read.rest c.args.self.now) (at_of g.R.Read.rest c.code.new.self) (at_of g.R.Read.rest c.count8.new.self) c.in_ok-size-in-Array8.size c.in_ok-size-in-Array8.count (rw c.in-Array8.is at c.in_ok-code.ensures.ok) c.in_ok-size-in-Array8.ensures.ok in
    refusal_as g.R.Read.faulty _ _ _ c.refuse-then-count-ne0.ensures.same (not_bare c.args.self.now.element (at_of g.R.Read.rest c.args.self.now) (at_of g.R.Read.rest c.code.new.self) (at_of g.R.Read.rest c.count8.new.self) c.in_ok-size-in-Array8.size c.in_ok-size-in-Array8.count h c.if-size-eq1.true c.if-count-ne0.true)

pub returns-in_err-element-in-Array8-clause-refused :
    goal.returns-in_err-element-in-Array8-clause-refused
returns-in_err-element-in-Array8-clause-refused g c =
    let h = counted8 c.args.self.now.element (at_of g.R.Read.rest c.args.self.now) (at_of g.R.Read.rest c.code.new.self) (at_of g.R.Read.rest c.count8.new.self) c.in_ok-size-in-Array8.size c.in_ok-size-in-Array8.count (rw c.in-Array8.is at c.in_ok-code.ensures.ok) c.in_ok-size-in-Array8.ensures.ok in
    carried g.R.Read.faulty c.from_residual-in_err-element-in-Array8.result c.in_err-element-in-Array8.field-0.0 _ _ c.from_residual-in_err-element-in-Array8.ensures.1
    (λ n. no_elements8 c.args.self.now.element (at_of g.R.Read.rest c.args.self.now) (at_of g.R.Read.rest c.code.new.self) (at_of g.R.Read.rest c.count8.new.self) c.in_ok-size-in-Array8.size c.in_ok-size-in-Array8.count h n (omega (arith, c.if-size-lt1.false, c.if-size-eq1.false))) c.in_err-element-in-Array8.ensures.refused

pub returns-then-count-gt-MAX_ARRAY_COUNT-clause-refused :
    goal.returns-then-count-gt-MAX_ARRAY_COUNT-clause-refused
returns-then-count-gt-MAX_ARRAY_COUNT-clause-refused g c =
    let h = counted32 c.args.self.now.element (at_of g.R.Read.rest c.args.self.now) (at_of g.R.Read.rest c.code.new.self) (at_of g.R.Read.rest c.count32.new.self) c.in_ok-size-in-Array32.size c.in_ok-size-in-Array32.count (rw c.in-Array32.is at c.in_ok-code.ensures.ok) c.in_ok-size-in-Array32.ensures.ok in
    refusal_as g.R.Read.faulty _ _ _ c.refuse-then-count-gt-MAX_ARRAY_COUNT.ensures.same (long_array32 c.args.self.now.element (at_of g.R.Read.rest c.args.self.now) (at_of g.R.Read.rest c.code.new.self) (at_of g.R.Read.rest c.count32.new.self) c.in_ok-size-in-Array32.size c.in_ok-size-in-Array32.count h c.if-count-gt-MAX_ARRAY_COUNT.true)

pub returns-in_err-element-in-Array32-clause-refused :
    goal.returns-in_err-element-in-Array32-clause-refused
returns-in_err-element-in-Array32-clause-refused g c =
    let h = counted32 c.args.self.now.element (at_of g.R.Read.rest c.args.self.now) (at_of g.R.Read.rest c.code.new.self) (at_of g.R.Read.rest c.count32.new.self) c.in_ok-size-in-Array32.size c.in_ok-size-in-Array32.count (rw c.in-Array32.is at c.in_ok-code.ensures.ok) c.in_ok-size-in-Array32.ensures.ok in
    carried g.R.Read.faulty c.from_residual-in_err-element-in-Array32.result c.in_err-element-in-Array32.field-0.0 _ _ c.from_residual-in_err-element-in-Array32.ensures.1
    (λ n. no_elements32 c.args.self.now.element (at_of g.R.Read.rest c.args.self.now) (at_of g.R.Read.rest c.code.new.self) (at_of g.R.Read.rest c.count32.new.self) c.in_ok-size-in-Array32.size c.in_ok-size-in-Array32.count h n (omega (arith, c.if-size-lt5.false))) c.in_err-element-in-Array32.ensures.refused

pub returns-in_ok-element-in-Array8-clause-ok : goal.returns-in_ok-element-in-Array8-clause-ok
returns-in_ok-element-in-Array8-clause-ok g c = rw c.set_element.ensures (
    let h = counted8 c.args.self.now.element (at_of g.R.Read.rest c.args.self.now) (at_of g.R.Read.rest c.code.new.self) (at_of g.R.Read.rest c.count8.new.self) c.in_ok-size-in-Array8.size c.in_ok-size-in-Array8.count (rw c.in-Array8.is at c.in_ok-code.ensures.ok) c.in_ok-size-in-Array8.ensures.ok in
    array8 c.args.self.now.element (at_of g.R.Read.rest c.args.self.now) (at_of g.R.Read.rest c.code.new.self) (at_of g.R.Read.rest c.count8.new.self) (at_of g.R.Read.rest c.element_code.new.self) c.in_ok-size-in-Array8.size c.in_ok-size-in-Array8.count c.in_ok-element-in-Array8.element _ h c.in_ok-element-in-Array8.ensures.ok c.in_ok-element-in-Array8.ensures.plain (omega (arith, c.if-size-lt1.false, c.if-size-eq1.false))
    )

pub returns-in_ok-element-in-Array32-clause-ok : goal.returns-in_ok-element-in-Array32-clause-ok
returns-in_ok-element-in-Array32-clause-ok g c = rw c.set_element-in-Array32.ensures (
    let h = counted32 c.args.self.now.element (at_of g.R.Read.rest c.args.self.now) (at_of g.R.Read.rest c.code.new.self) (at_of g.R.Read.rest c.count32.new.self) c.in_ok-size-in-Array32.size c.in_ok-size-in-Array32.count (rw c.in-Array32.is at c.in_ok-code.ensures.ok) c.in_ok-size-in-Array32.ensures.ok in
    array32 c.args.self.now.element (at_of g.R.Read.rest c.args.self.now) (at_of g.R.Read.rest c.code.new.self) (at_of g.R.Read.rest c.count32.new.self) (at_of g.R.Read.rest c.element_code-in-Array32.new.self) c.in_ok-size-in-Array32.size c.in_ok-size-in-Array32.count c.in_ok-element-in-Array32.element _ h c.in_ok-element-in-Array32.ensures.ok c.in_ok-element-in-Array32.ensures.plain (omega (arith, c.if-size-lt5.false)) (omega (arith, c.if-count-gt-MAX_ARRAY_COUNT.false))
    )

pub returns-in_err-code-clause-refused : goal.returns-in_err-code-clause-refused
returns-in_err-code-clause-refused g c = carried g.R.Read.faulty _ c.in_err-code.field-0.0 _ _ c.from_residual.ensures.1 (no_head_refuses _ _ _) c.in_err-code.ensures.refused

pub returns-in_err-size-in-Array8-clause-refused : goal.returns-in_err-size-in-Array8-clause-refused
returns-in_err-size-in-Array8-clause-refused g c = carried g.R.Read.faulty _ c.in_err-size-in-Array8.field-0.0 _ _ c.from_residual-in_err-size-in-Array8.ensures.1 (short_array8 _ _ _ (rw c.in-Array8.is at c.in_ok-code.ensures.ok)) c.in_err-size-in-Array8.ensures.end

pub returns-in_err-size-in-Array32-clause-refused : goal.returns-in_err-size-in-Array32-clause-refused
returns-in_err-size-in-Array32-clause-refused g c = carried g.R.Read.faulty _ c.in_err-size-in-Array32.field-0.0 _ _ c.from_residual-in_err-size-in-Array32.ensures.1 (short_array32 _ _ _ (rw c.in-Array32.is at c.in_ok-code.ensures.ok)) c.in_err-size-in-Array32.ensures.end

pub returns-then-size-lt5-clause-refused : goal.returns-then-size-lt5-clause-refused
returns-then-size-lt5-clause-refused g c = refusal_as g.R.Read.faulty _ _ _ c.refuse-then-size-lt5.ensures.same (small_array32 _ _ _ _ _ _ (counted32 _ _ _ _ _ _ (rw c.in-Array32.is at c.in_ok-code.ensures.ok) c.in_ok-size-in-Array32.ensures.ok) c.if-size-lt5.true)

pub returns-then-size-eq1-clause-ok : goal.returns-then-size-eq1-clause-ok
returns-then-size-eq1-clause-ok g c = bare_array _ _ _ _ _ _ _ (rw c.in-Array8.is at c.in_ok-code.ensures.ok) c.in_ok-size-in-Array8.ensures.ok c.if-size-eq1.true c.if-count-ne0.false

pub returns-in_default-clause-refused : goal.returns-in_default-clause-refused
returns-in_default-clause-refused g c = refusal_as g.R.Read.faulty _ _ _ c.refuse-in_default.ensures.same (wrong_array _ _ _ _ c.in_ok-code.ensures.ok c.in_default.not-Array8 c.in_default.not-Array32)

pub returns-in_err-code-clause-named : goal.returns-in_err-code-clause-named
returns-in_err-code-clause-named g c = names_on g.R.Read.faulty _ array_kind _ _ _ c.from_residual.ensures.1 (c.in_err-code.ensures.named array_kind)

pub returns-in_err-size-in-Array8-clause-named : goal.returns-in_err-size-in-Array8-clause-named
returns-in_err-size-in-Array8-clause-named g c = names_few g.R.Read.faulty _ array_kind _ _ _ Array8 _ _ c.from_residual-in_err-size-in-Array8.ensures.1 (rw c.in-Array8.is at c.in_ok-code.ensures.ok) refl (λ p. inl p) c.in_err-size-in-Array8.ensures.end

pub returns-in_err-size-in-Array32-clause-named : goal.returns-in_err-size-in-Array32-clause-named
returns-in_err-size-in-Array32-clause-named g c = names_few g.R.Read.faulty _ array_kind _ _ _ Array32 _ _ c.from_residual-in_err-size-in-Array32.ensures.1 (rw c.in-Array32.is at c.in_ok-code.ensures.ok) refl (λ p. inl p) c.in_err-size-in-Array32.ensures.end

pub returns-then-size-lt1-clause-named : goal.returns-then-size-lt1-clause-named
returns-then-size-lt1-clause-named g c = names_length g.R.Read.faulty array_kind _ _ _ Array8 _ c.refuse.ensures.same (rw c.in-Array8.is at c.in_ok-code.ensures.ok) refl (counted_of _ _ _ _ _ _ c.in_ok-size-in-Array8.ensures.ok (inl c.if-size-lt1.true))

pub returns-then-count-ne0-clause-named : goal.returns-then-count-ne0-clause-named
returns-then-count-ne0-clause-named g c = names_length g.R.Read.faulty array_kind _ _ _ Array8 _ c.refuse-then-count-ne0.ensures.same (rw c.in-Array8.is at c.in_ok-code.ensures.ok) refl (counted_of _ _ _ _ _ _ c.in_ok-size-in-Array8.ensures.ok (inr (inr (c.if-size-eq1.true, inr c.if-count-ne0.true))))

pub returns-then-size-lt5-clause-named : goal.returns-then-size-lt5-clause-named
returns-then-size-lt5-clause-named g c = names_length g.R.Read.faulty array_kind _ _ _ Array32 _ c.refuse-then-size-lt5.ensures.same (rw c.in-Array32.is at c.in_ok-code.ensures.ok) refl (counted_of _ _ _ _ _ _ c.in_ok-size-in-Array32.ensures.ok (four_or_less _ _ c.if-size-lt5.true))

pub returns-then-count-gt-MAX_ARRAY_COUNT-clause-named : goal.returns-then-count-gt-MAX_ARRAY_COUNT-clause-named
returns-then-count-gt-MAX_ARRAY_COUNT-clause-named g c = names_length g.R.Read.faulty array_kind _ _ _ Array32 _ c.refuse-then-count-gt-MAX_ARRAY_COUNT.ensures.same (rw c.in-Array32.is at c.in_ok-code.ensures.ok) refl (counted_of _ _ _ _ _ _ c.in_ok-size-in-Array32.ensures.ok (inr (inl c.if-count-gt-MAX_ARRAY_COUNT.true)))

pub returns-in_err-element-in-Array8-clause-named : goal.returns-in_err-element-in-Array8-clause-named
returns-in_err-element-in-Array8-clause-named g c = names_element_on g.R.Read.faulty _ _ _ _ _ Array8 _ _ _ _ c.from_residual-in_err-element-in-Array8.ensures.1 (rw c.in-Array8.is at c.in_ok-code.ensures.ok) refl refl c.in_ok-size-in-Array8.ensures.ok (omega (arith, c.if-size-lt1.false, c.if-size-eq1.false)) c.in_err-element-in-Array8.ensures.named

pub returns-in_err-element-in-Array32-clause-named : goal.returns-in_err-element-in-Array32-clause-named
returns-in_err-element-in-Array32-clause-named g c = names_element_on g.R.Read.faulty _ _ _ _ _ Array32 _ _ _ _ c.from_residual-in_err-element-in-Array32.ensures.1 (rw c.in-Array32.is at c.in_ok-code.ensures.ok) refl refl c.in_ok-size-in-Array32.ensures.ok (omega (arith, c.if-size-lt5.false)) c.in_err-element-in-Array32.ensures.named

pub returns-in_default-clause-named : goal.returns-in_default-clause-named
returns-in_default-clause-named g c = names_wrong g.R.Read.faulty array_kind _ _ _ _ _ c.refuse-in_default.ensures.same c.in_ok-code.ensures.ok (not_array _ c.in_default.not-Array8 c.in_default.not-Array32)
