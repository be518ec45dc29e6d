-- What is printed of no steps.
use Rattle.std.proofs.Common.{◌≡◌, ◌⊎◌, inl, inr, ℕ, List, [], ◌∷◌, ◌++◌, length, map, refl, sym, ◌∙◌, ap, append-nil}
use Rattle.std.proofs.Common.{arith}
use Rattle.amqp_endpoint_model.specs.declared.answer.Reply.{Reply}
use Rattle.amqp_endpoint_model.specs.Said.{told}
use Rattle.amqp_endpoint_core.specs.declared.reply.WorldReply.{WorldReply}
use Rattle.amqp_endpoint_core.specs.declared.step.Step.{Step}
use Rattle.amqp_endpoint_core.specs.WorldSaid.{world_told}
use Rattle.amqp_endpoint_scripts.specs.Printed.{printed, world_printed}

printed_none : (lines : List ℕ) (replies : List Reply) → (length lines ≡ 0) ⊎ (length replies ≡ 0)
    → printed lines (map told replies) ≡ []
printed_none [] replies done = refl
printed_none (line ∷ lines) [] done = refl
printed_none (line ∷ lines) (reply ∷ replies) (inl e) = absurd (omega (arith, e))
printed_none (line ∷ lines) (reply ∷ replies) (inr e) = absurd (omega (arith, e))

-- where no line or no reply is left, all is printed
pub printed_all : (text lines : List ℕ) (replies : List Reply) (all : List ℕ)
    → (length lines ≡ 0) ⊎ (length replies ≡ 0) → text ++ printed lines (map told replies) ≡ all → text ≡ all
printed_all text lines replies all done e =
    sym (append-nil text) ∙ ap (λ more. text ++ more) (sym (printed_none lines replies done)) ∙ e

world_none : (lines : List ℕ) (steps : List Step) (replies : List WorldReply)
    → (length lines ≡ 0) ⊎ ((length steps ≡ 0) ⊎ (length replies ≡ 0))
    → world_printed lines steps (map world_told replies) ≡ []
world_none [] steps replies done = refl
world_none (line ∷ lines) [] replies done = refl
world_none (line ∷ lines) (step ∷ steps) [] done = refl
world_none (line ∷ lines) (step ∷ steps) (reply ∷ replies) (inl e) = absurd (omega (arith, e))
world_none (line ∷ lines) (step ∷ steps) (reply ∷ replies) (inr (inl e)) = absurd (omega (arith, e))
world_none (line ∷ lines) (step ∷ steps) (reply ∷ replies) (inr (inr e)) = absurd (omega (arith, e))

-- the same of two ends, where no line, no step or no reply is left
pub world_all : (text lines : List ℕ) (steps : List Step) (replies : List WorldReply) (all : List ℕ)
    → (length lines ≡ 0) ⊎ ((length steps ≡ 0) ⊎ (length replies ≡ 0))
    → text ++ world_printed lines steps (map world_told replies) ≡ all → text ≡ all
world_all text lines steps replies all done e =
    sym (append-nil text) ∙ ap (λ more. text ++ more) (sym (world_none lines steps replies done)) ∙ e
