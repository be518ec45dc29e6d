use Rattle.std.proofs.Common.{refl, sym, ◌∙◌, subst, rules}
use Rattle.std.specs.Prelude.{ℤ}
use Rattle.std.specs.Int.{w64}
use Rattle.std.proofs.lemmas.Int.{to_z-of_z}
use Rattle.serde_amqp_item.specs.Item.{scalar, timestamp}
use Rattle.serde_amqp_item.specs.declared.codes.EncodingCodes.TheVariants.{Timestamp}
use Rattle.serde_amqp_item.specs.Kind.{timestamp_kind}
use Rattle.serde_amqp_de.specs.Reads.{Reads, at_of}
use Rattle.serde_amqp_de.proofs.Heads.{carried, no_head_refuses, refusal_as}
use Rattle.serde_amqp_de.proofs.Fixed.{not_timestamp, timestamp_read, short_timestamp, wrong_timestamp}
use Rattle.serde_amqp_de.proofs.Naming.{names_few, names_on, names_wrong}
use Rattle.serde_amqp_de.proofs.deserializer.Deserializer.deserialize_timestamp.Goals as goal

pub returns-in_err-code-clause-refused : goal.returns-in_err-code-clause-refused
returns-in_err-code-clause-refused g c = carried g.R.Read.faulty _ c.in_err-code.field-0.0 _ _ c.from_residual.ensures.1 (no_head_refuses _ _ _) c.in_err-code.ensures.refused

pub returns-in_err-code-clause-named : goal.returns-in_err-code-clause-named
returns-in_err-code-clause-named g c = names_on g.R.Read.faulty _ timestamp_kind _ _ _ c.from_residual.ensures.1 (c.in_err-code.ensures.named timestamp_kind)

pub returns-in_err-next_u64-in-Timestamp-clause-refused :
    goal.returns-in_err-next_u64-in-Timestamp-clause-refused
returns-in_err-next_u64-in-Timestamp-clause-refused g c = carried g.R.Read.faulty _ c.in_err-next_u64-in-Timestamp.field-0.0 _ _ c.from_residual-in_err-next_u64-in-Timestamp.ensures.1 (short_timestamp _ _ _ (rw c.in-Timestamp.is at c.in_ok-code.ensures.ok)) c.in_err-next_u64-in-Timestamp.ensures.end

pub returns-in_err-next_u64-in-Timestamp-clause-named : goal.returns-in_err-next_u64-in-Timestamp-clause-named
returns-in_err-next_u64-in-Timestamp-clause-named g c = names_few g.R.Read.faulty _ timestamp_kind _ _ _ Timestamp _ _ c.from_residual-in_err-next_u64-in-Timestamp.ensures.1 (rw c.in-Timestamp.is at c.in_ok-code.ensures.ok) refl (λ p. p) c.in_err-next_u64-in-Timestamp.ensures.end

pub returns-in_ok-next_u64-in-Timestamp-clause-ok :
    goal.returns-in_ok-next_u64-in-Timestamp-clause-ok
returns-in_ok-next_u64-in-Timestamp-clause-ok g c =
    let same = to_z-of_z w64 c.cast_signed.result (record { sfits = c.cast_signed.type_inv }) ∙ c.cast_signed.ensures in
    subst (λ (z : ℤ). Reads c.args.self.now.element (at_of g.R.Read.rest c.args.self.now) (at_of g.R.Read.rest c.next_u64.new.self) (scalar (timestamp z))) (sym same) (timestamp_read _ _ _ _ _ (rw c.in-Timestamp.is at c.in_ok-code.ensures.ok) c.in_ok-next_u64-in-Timestamp.ensures.ok (search rules))

pub returns-in_default-clause-refused : goal.returns-in_default-clause-refused
returns-in_default-clause-refused g c = refusal_as g.R.Read.faulty _ _ _ c.refuse.ensures.same (wrong_timestamp _ _ _ _ c.in_ok-code.ensures.ok c.in_default.not-Timestamp)

pub returns-in_default-clause-named : goal.returns-in_default-clause-named
returns-in_default-clause-named g c = names_wrong g.R.Read.faulty timestamp_kind _ _ _ _ _ c.refuse.ensures.same c.in_ok-code.ensures.ok (not_timestamp _ c.in_default.not-Timestamp)
