use Rattle.std.proofs.Common.{refl}
use Rattle.serde_amqp_item.specs.declared.codes.EncodingCodes.TheVariants.{Uuid}
use Rattle.serde_amqp_item.specs.Kind.{uuid_kind}
use Rattle.serde_amqp_de.proofs.Heads.{carried, no_head_refuses, refusal_as}
use Rattle.serde_amqp_de.proofs.Fixed.{not_uuid, uuid_read, short_uuid, wrong_uuid}
use Rattle.serde_amqp_de.proofs.Naming.{names_few, names_on, names_wrong}
use Rattle.serde_amqp_de.proofs.deserializer.Deserializer.deserialize_uuid.Goals as goal

pub returns-in_err-code-clause-refused : goal.returns-in_err-code-clause-refused
returns-in_err-code-clause-refused g c = carried g.R.Read.faulty _ c.in_err-code.field-0.0 _ _ c.from_residual.ensures.1 (no_head_refuses _ _ _) c.in_err-code.ensures.refused

pub returns-in_err-code-clause-named : goal.returns-in_err-code-clause-named
returns-in_err-code-clause-named g c = names_on g.R.Read.faulty _ uuid_kind _ _ _ c.from_residual.ensures.1 (c.in_err-code.ensures.named uuid_kind)

pub returns-in_err-next_bytes-in-Uuid-clause-refused :
    goal.returns-in_err-next_bytes-in-Uuid-clause-refused
returns-in_err-next_bytes-in-Uuid-clause-refused g c = carried g.R.Read.faulty _ c.in_err-next_bytes-in-Uuid.field-0.0 _ _ c.from_residual-in_err-next_bytes-in-Uuid.ensures.1 (short_uuid _ _ _ (rw c.in-Uuid.is at c.in_ok-code.ensures.ok)) c.in_err-next_bytes-in-Uuid.ensures.end

pub returns-in_err-next_bytes-in-Uuid-clause-named : goal.returns-in_err-next_bytes-in-Uuid-clause-named
returns-in_err-next_bytes-in-Uuid-clause-named g c = names_few g.R.Read.faulty _ uuid_kind _ _ _ Uuid _ _ c.from_residual-in_err-next_bytes-in-Uuid.ensures.1 (rw c.in-Uuid.is at c.in_ok-code.ensures.ok) refl (λ p. p) c.in_err-next_bytes-in-Uuid.ensures.end

pub returns-in_ok-next_bytes-in-Uuid-clause-ok : goal.returns-in_ok-next_bytes-in-Uuid-clause-ok
returns-in_ok-next_bytes-in-Uuid-clause-ok g c = uuid_read _ _ _ _ _ (rw c.in-Uuid.is at c.in_ok-code.ensures.ok) c.in_ok-next_bytes-in-Uuid.ensures.ok c.in_ok-next_bytes-in-Uuid.ensures.len

pub returns-in_default-clause-refused : goal.returns-in_default-clause-refused
returns-in_default-clause-refused g c = refusal_as g.R.Read.faulty _ _ _ c.refuse.ensures.same (wrong_uuid _ _ _ _ c.in_ok-code.ensures.ok c.in_default.not-Uuid)

pub returns-in_default-clause-named : goal.returns-in_default-clause-named
returns-in_default-clause-named g c = names_wrong g.R.Read.faulty uuid_kind _ _ _ _ _ c.refuse.ensures.same c.in_ok-code.ensures.ok (not_uuid _ c.in_default.not-Uuid)
