-- What an End says of any other fault, and which refusal is one.
use Rattle.std.proofs.Common.{◌≡◌, inl, inr, refl}
use Rattle.std.specs.Prelude.{◌≢◌, ◌⊎◌}
use Rattle.amqp_session_types.specs.declared.refusals.SessionError.{SessionError}
use Rattle.amqp_session_types.specs.declared.refusals.SessionError.TheVariants.{HandleInUse, Memory, UnattachedHandle}
use Rattle.amqp_endpoint_conversation.specs.Faults.{condition_of, not_allowed}

pub other_condition : (e : SessionError) → (e ≡ UnattachedHandle → ⊥) → (e ≡ HandleInUse → ⊥) → not_allowed
    ≡ condition_of e
other_condition UnattachedHandle neither nor = absurd (neither refl)
other_condition HandleInUse neither nor = absurd (nor refl)
other_condition e neither nor = refl

pub is_for_memory : (e : SessionError) → (e ≡ Memory) ⊎ (e ≢ Memory)
is_for_memory Memory = inl refl
is_for_memory e = inr (λ is. absurd cc)
