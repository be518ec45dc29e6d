use Rattle.std.proofs.Common.{refl, inl, inr, arith}
use Rattle.serde_amqp_item.specs.declared.codes.EncodingCodes.TheVariants.{List8, List32}
use Rattle.serde_amqp_item.specs.Kind.{list_kind}
use Rattle.serde_amqp_de.specs.Reads.{at_of}
use Rattle.serde_amqp_de.proofs.Heads.{carried, no_head_refuses, refusal_as}
use Rattle.serde_amqp_de.proofs.Lists.{not_list, list0, list8, list32, small_list8, small_list32, long_list32, short_list8, short_list32, wrong_list}
use Rattle.serde_amqp_de.proofs.Naming.{counted_of, names_few, names_length, names_on, names_wrong, said, said_none}
use Rattle.serde_amqp_de.proofs.deserializer.Deserializer.list_head.Goals as goal

pub returns-then-size-lt1-clause-refused : goal.returns-then-size-lt1-clause-refused
returns-then-size-lt1-clause-refused g c =
    let head = rw c.in-List8.is at c.in_ok-code.ensures.ok in
    refusal_as g.R.Read.faulty _ _ _ c.refuse.ensures.same (small_list8 c.args.self.now.element (at_of g.R.Read.rest c.args.self.now) (at_of g.R.Read.rest c.code.new.self) (at_of g.R.Read.rest c.count8.new.self) c.in_ok-size-in-List8.size c.in_ok-size-in-List8.count head c.in_ok-size-in-List8.ensures.ok c.if-size-lt1.true)

pub returns-then-size-lt4-clause-refused : goal.returns-then-size-lt4-clause-refused
returns-then-size-lt4-clause-refused g c =
    let head = rw c.in-List32.is at c.in_ok-code.ensures.ok in
    refusal_as g.R.Read.faulty _ _ _ c.refuse-then-size-lt4.ensures.same (small_list32 c.args.self.now.element (at_of g.R.Read.rest c.args.self.now) (at_of g.R.Read.rest c.code.new.self) (at_of g.R.Read.rest c.count32.new.self) c.in_ok-size-in-List32.size c.in_ok-size-in-List32.count head c.in_ok-size-in-List32.ensures.ok c.if-size-lt4.true)

pub returns-then-count-gt-MAX_ARRAY_COUNT-clause-refused :
    goal.returns-then-count-gt-MAX_ARRAY_COUNT-clause-refused
returns-then-count-gt-MAX_ARRAY_COUNT-clause-refused g c =
    let head = rw c.in-List32.is at c.in_ok-code.ensures.ok in
    refusal_as g.R.Read.faulty _ _ _ c.refuse-then-count-gt-MAX_ARRAY_COUNT.ensures.same (long_list32 c.args.self.now.element (at_of g.R.Read.rest c.args.self.now) (at_of g.R.Read.rest c.code.new.self) (at_of g.R.Read.rest c.count32.new.self) c.in_ok-size-in-List32.size c.in_ok-size-in-List32.count head c.in_ok-size-in-List32.ensures.ok c.if-count-gt-MAX_ARRAY_COUNT.true)

pub returns-in_err-code-clause-refused : goal.returns-in_err-code-clause-refused
returns-in_err-code-clause-refused g c = carried g.R.Read.faulty _ c.in_err-code.field-0.0 _ _ c.from_residual.ensures.1 (no_head_refuses _ _ _) c.in_err-code.ensures.refused

pub returns-in_err-size-in-List8-clause-refused : goal.returns-in_err-size-in-List8-clause-refused
returns-in_err-size-in-List8-clause-refused g c = carried g.R.Read.faulty _ c.in_err-size-in-List8.field-0.0 _ _ c.from_residual-in_err-size-in-List8.ensures.1 (short_list8 _ _ _ (rw c.in-List8.is at c.in_ok-code.ensures.ok)) c.in_err-size-in-List8.ensures.end

pub returns-in_err-size-in-List32-clause-refused : goal.returns-in_err-size-in-List32-clause-refused
returns-in_err-size-in-List32-clause-refused g c = carried g.R.Read.faulty _ c.in_err-size-in-List32.field-0.0 _ _ c.from_residual-in_err-size-in-List32.ensures.1 (short_list32 _ _ _ (rw c.in-List32.is at c.in_ok-code.ensures.ok)) c.in_err-size-in-List32.ensures.end

pub returns-in-List0-clause-ok : goal.returns-in-List0-clause-ok
returns-in-List0-clause-ok g c = list0 _ _ _ (rw c.in-List0.is at c.in_ok-code.ensures.ok)

pub returns-else-size-lt1-clause-ok : goal.returns-else-size-lt1-clause-ok
returns-else-size-lt1-clause-ok g c = list8 _ _ _ _ _ _ _ (rw c.in-List8.is at c.in_ok-code.ensures.ok) c.in_ok-size-in-List8.ensures.ok (omega (arith, c.if-size-lt1.false))

pub returns-else-count-gt-MAX_ARRAY_COUNT-clause-ok : goal.returns-else-count-gt-MAX_ARRAY_COUNT-clause-ok
returns-else-count-gt-MAX_ARRAY_COUNT-clause-ok g c = list32 _ _ _ _ _ _ _ (rw c.in-List32.is at c.in_ok-code.ensures.ok) c.in_ok-size-in-List32.ensures.ok (omega (arith, c.if-size-lt4.false)) (omega (arith, c.if-count-gt-MAX_ARRAY_COUNT.false))

pub returns-in_default-clause-refused : goal.returns-in_default-clause-refused
returns-in_default-clause-refused g c = refusal_as g.R.Read.faulty _ _ _ c.refuse-in_default.ensures.same (wrong_list _ _ _ _ c.in_ok-code.ensures.ok c.in_default.not-List0 c.in_default.not-List8 c.in_default.not-List32)

pub returns-in_err-code-clause-named : goal.returns-in_err-code-clause-named
returns-in_err-code-clause-named g c = names_on g.R.Read.faulty _ list_kind _ _ _ c.from_residual.ensures.1 (c.in_err-code.ensures.named list_kind)

pub returns-in_err-size-in-List8-clause-named : goal.returns-in_err-size-in-List8-clause-named
returns-in_err-size-in-List8-clause-named g c = names_few g.R.Read.faulty _ list_kind _ _ _ List8 _ _ c.from_residual-in_err-size-in-List8.ensures.1 (rw c.in-List8.is at c.in_ok-code.ensures.ok) refl (λ p. p) c.in_err-size-in-List8.ensures.end

pub returns-in_err-size-in-List32-clause-named : goal.returns-in_err-size-in-List32-clause-named
returns-in_err-size-in-List32-clause-named g c = names_few g.R.Read.faulty _ list_kind _ _ _ List32 _ _ c.from_residual-in_err-size-in-List32.ensures.1 (rw c.in-List32.is at c.in_ok-code.ensures.ok) refl (λ p. p) c.in_err-size-in-List32.ensures.end

pub returns-then-size-lt1-clause-named : goal.returns-then-size-lt1-clause-named
returns-then-size-lt1-clause-named g c = names_length g.R.Read.faulty list_kind _ _ _ List8 _ c.refuse.ensures.same (rw c.in-List8.is at c.in_ok-code.ensures.ok) refl (counted_of _ _ _ _ _ _ c.in_ok-size-in-List8.ensures.ok (inl c.if-size-lt1.true))

pub returns-then-size-lt4-clause-named : goal.returns-then-size-lt4-clause-named
returns-then-size-lt4-clause-named g c = names_length g.R.Read.faulty list_kind _ _ _ List32 _ c.refuse-then-size-lt4.ensures.same (rw c.in-List32.is at c.in_ok-code.ensures.ok) refl (counted_of _ _ _ _ _ _ c.in_ok-size-in-List32.ensures.ok (inl c.if-size-lt4.true))

pub returns-then-count-gt-MAX_ARRAY_COUNT-clause-named : goal.returns-then-count-gt-MAX_ARRAY_COUNT-clause-named
returns-then-count-gt-MAX_ARRAY_COUNT-clause-named g c = names_length g.R.Read.faulty list_kind _ _ _ List32 _ c.refuse-then-count-gt-MAX_ARRAY_COUNT.ensures.same (rw c.in-List32.is at c.in_ok-code.ensures.ok) refl (counted_of _ _ _ _ _ _ c.in_ok-size-in-List32.ensures.ok (inr c.if-count-gt-MAX_ARRAY_COUNT.true))

pub returns-in_default-clause-named : goal.returns-in_default-clause-named
returns-in_default-clause-named g c = names_wrong g.R.Read.faulty list_kind _ _ _ _ _ c.refuse-in_default.ensures.same c.in_ok-code.ensures.ok (not_list _ c.in_default.not-List0 c.in_default.not-List8 c.in_default.not-List32)

pub returns-in-List0-clause-said : goal.returns-in-List0-clause-said
returns-in-List0-clause-said g c = said_none _ _ _ (rw c.in-List0.is at c.in_ok-code.ensures.ok)

pub returns-else-size-lt1-clause-said : goal.returns-else-size-lt1-clause-said
returns-else-size-lt1-clause-said g c = said list_kind _ _ _ _ List8 _ _ _
    (rw c.in-List8.is at c.in_ok-code.ensures.ok) refl c.in_ok-size-in-List8.ensures.ok (λ s. s)

pub returns-else-count-gt-MAX_ARRAY_COUNT-clause-said :
    goal.returns-else-count-gt-MAX_ARRAY_COUNT-clause-said
returns-else-count-gt-MAX_ARRAY_COUNT-clause-said g c = said list_kind _ _ _ _ List32 _ _ _
    (rw c.in-List32.is at c.in_ok-code.ensures.ok) refl c.in_ok-size-in-List32.ensures.ok (λ s. s)
