-- Laws of an endpoint without sessions.
use Rattle.std.proofs.Common.{◌≡◌, Some}
use Rattle.amqp_endpoint_model.specs.declared.call.Call.{Call}
use Rattle.amqp_endpoint_model.specs.declared.call.Call.TheVariants.{IsEnded, TryEnd}
use Rattle.amqp_endpoint_model.specs.declared.error.EndpointError.{EndpointError}
use Rattle.amqp_endpoint_model.specs.Said.{Said}
use Rattle.amqp_endpoint_core.specs.NoSessions.{call_refusal, no_session_says}

-- it is one thing
pub some_is : {A : Type 0} (a b : A) → Some a ≡ Some b → a ≡ b
some_is a b e = cc

-- a call is answered or refused
pub never_both : (call : Call) (a : Said) (e : EndpointError) → no_session_says call ≡ Some a
    → call_refusal call ≡ Some e → ⊥
never_both (IsEnded number) a e answered barred = absurd (cc)
never_both (TryEnd number) a e answered barred = absurd (cc)
never_both call a e answered barred = absurd (cc)
