use Rattle.std.proofs.Common.{refl, sym, ◌∙◌, subst, rules}
use Rattle.std.specs.Prelude.{ℤ}
use Rattle.std.specs.Int.{w8, w32}
use Rattle.std.proofs.lemmas.Int.{to_z-of_z}
use Rattle.serde_amqp_item.specs.Item.{scalar, int}
use Rattle.serde_amqp_item.specs.declared.codes.EncodingCodes.TheVariants.{Int, SmallInt}
use Rattle.serde_amqp_item.specs.Kind.{int_kind}
use Rattle.serde_amqp_de.specs.Reads.{Reads, at_of}
use Rattle.serde_amqp_de.proofs.Heads.{carried, no_head_refuses, refusal_as}
use Rattle.serde_amqp_de.proofs.Fixed.{not_int, int_small, int_wide, short_int8, short_int32, wrong_int}
use Rattle.serde_amqp_de.proofs.Naming.{names_few, names_on, names_wrong, nothing_left}
use Rattle.serde_amqp_de.proofs.deserializer.Deserializer.deserialize_i32.Goals as goal

pub returns-in_ok-next_byte-in-SmallInt-clause-ok :
    goal.returns-in_ok-next_byte-in-SmallInt-clause-ok
returns-in_ok-next_byte-in-SmallInt-clause-ok g c =
    let head = rw c.in-SmallInt.is at c.in_ok-code.ensures.ok in
    let narrow = to_z-of_z w8 c.cast_signed.result (record { sfits = c.cast_signed.type_inv }) in
    let wide = to_z-of_z w32 c.from.result (record { sfits = c.from.type_inv }) in
    let same = wide ∙ (c.from.ensures ∙ (narrow ∙ c.cast_signed.ensures)) in
    subst (λ (z : ℤ). Reads c.args.self.now.element (at_of g.R.Read.rest c.args.self.now) (at_of g.R.Read.rest c.next_byte.new.self) (scalar (int z))) (sym same)
    (int_small c.args.self.now.element (at_of g.R.Read.rest c.args.self.now) (at_of g.R.Read.rest c.code.new.self) (at_of g.R.Read.rest c.next_byte.new.self) c.in_ok-next_byte-in-SmallInt.field-0 head c.in_ok-next_byte-in-SmallInt.ensures.ok)

pub returns-in_err-code-clause-refused : goal.returns-in_err-code-clause-refused
returns-in_err-code-clause-refused g c = carried g.R.Read.faulty _ c.in_err-code.field-0.0 _ _ c.from_residual.ensures.1 (no_head_refuses _ _ _) c.in_err-code.ensures.refused

pub returns-in_err-code-clause-named : goal.returns-in_err-code-clause-named
returns-in_err-code-clause-named g c = names_on g.R.Read.faulty _ int_kind _ _ _ c.from_residual.ensures.1 (c.in_err-code.ensures.named int_kind)

pub returns-in_err-next_byte-in-SmallInt-clause-refused :
    goal.returns-in_err-next_byte-in-SmallInt-clause-refused
returns-in_err-next_byte-in-SmallInt-clause-refused g c = carried g.R.Read.faulty _ c.in_err-next_byte-in-SmallInt.field-0.0 _ _ c.from_residual-in_err-next_byte-in-SmallInt.ensures.1 (short_int8 _ _ _ (rw c.in-SmallInt.is at c.in_ok-code.ensures.ok)) c.in_err-next_byte-in-SmallInt.ensures.end

pub returns-in_err-next_byte-in-SmallInt-clause-named : goal.returns-in_err-next_byte-in-SmallInt-clause-named
returns-in_err-next_byte-in-SmallInt-clause-named g c = names_few g.R.Read.faulty _ int_kind _ _ _ SmallInt _ _ c.from_residual-in_err-next_byte-in-SmallInt.ensures.1 (rw c.in-SmallInt.is at c.in_ok-code.ensures.ok) refl (λ p. nothing_left _ p) c.in_err-next_byte-in-SmallInt.ensures.end

pub returns-in_err-next_u32-in-Int-clause-refused :
    goal.returns-in_err-next_u32-in-Int-clause-refused
returns-in_err-next_u32-in-Int-clause-refused g c = carried g.R.Read.faulty _ c.in_err-next_u32-in-Int.field-0.0 _ _ c.from_residual-in_err-next_u32-in-Int.ensures.1 (short_int32 _ _ _ (rw c.in-Int.is at c.in_ok-code.ensures.ok)) c.in_err-next_u32-in-Int.ensures.end

pub returns-in_err-next_u32-in-Int-clause-named : goal.returns-in_err-next_u32-in-Int-clause-named
returns-in_err-next_u32-in-Int-clause-named g c = names_few g.R.Read.faulty _ int_kind _ _ _ Int _ _ c.from_residual-in_err-next_u32-in-Int.ensures.1 (rw c.in-Int.is at c.in_ok-code.ensures.ok) refl (λ p. p) c.in_err-next_u32-in-Int.ensures.end

pub returns-in_ok-next_u32-in-Int-clause-ok : goal.returns-in_ok-next_u32-in-Int-clause-ok
returns-in_ok-next_u32-in-Int-clause-ok g c =
    let same = to_z-of_z w32 c.cast_signed-in-Int.result (record { sfits = c.cast_signed-in-Int.type_inv }) ∙ c.cast_signed-in-Int.ensures in
    subst (λ (z : ℤ). Reads c.args.self.now.element (at_of g.R.Read.rest c.args.self.now) (at_of g.R.Read.rest c.next_u32.new.self) (scalar (int z))) (sym same)
    (int_wide _ _ _ _ _ (rw c.in-Int.is at c.in_ok-code.ensures.ok) c.in_ok-next_u32-in-Int.ensures.ok (search rules))

pub returns-in_default-clause-refused : goal.returns-in_default-clause-refused
returns-in_default-clause-refused g c = refusal_as g.R.Read.faulty _ _ _ c.refuse.ensures.same (wrong_int _ _ _ _ c.in_ok-code.ensures.ok c.in_default.not-Int c.in_default.not-SmallInt)

pub returns-in_default-clause-named : goal.returns-in_default-clause-named
returns-in_default-clause-named g c = names_wrong g.R.Read.faulty int_kind _ _ _ _ _ c.refuse.ensures.same c.in_ok-code.ensures.ok (not_int _ c.in_default.not-Int c.in_default.not-SmallInt)
