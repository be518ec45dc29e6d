-- Which links attach again (part 2, 2.6.3).
use Rattle.std.specs.Prelude.{◌≡◌, ℕ, List, [], ◌∷◌}
use Rattle.amqp_endpoint_model.specs.Said.{Said}
use Rattle.amqp_endpoint_model.specs.declared.call.Call.{Call}
use Rattle.amqp_endpoint_model.specs.declared.call.Call.TheVariants.{Resume}
use Rattle.amqp_endpoint_laws.specs.Deeds.{Deed, Does}

-- this call has the link with this number attach again
abbrev pub Resumes : ℕ → Call → Type 0
Resumes link (Resume number session) = number ≡ link
Resumes link call = ⊥

-- it does so by this deed
abbrev pub IsResumed : ℕ → Deed → Type 0
IsResumed link (Does limit call answer frames) = Resumes link call
IsResumed link deed = ⊥

-- by none of these deeds
abbrev pub NeverResumed : ℕ → List Deed → Type 0
NeverResumed link [] = Unit {0}
NeverResumed link (deed ∷ deeds) = (IsResumed link deed → ⊥) × NeverResumed link deeds

-- and by none of these calls, which are done
abbrev pub NeverCalledAgain : ℕ → List (Call × Said) → Type 0
NeverCalledAgain link [] = Unit {0}
NeverCalledAgain link (did ∷ others) = (Resumes link did.0 → ⊥) × NeverCalledAgain link others
