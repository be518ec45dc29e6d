-- Copies of a state are used up one by one.
use Rattle.std.proofs.Common.{◌≡◌, List, ◌++◌, ◌+◌, ℕ, Option, Some, None, IsSome, All, ap, ◌∙◌}
use Rattle.std.proofs.Common.{option_to_list, IfSome, length, refl}
use Rattle.std.proofs.lemmas.Bool.{false≢true}
use Rattle.std.specs.Option.{option_flatten}
use Rattle.std.proofs.lemmas.List.{length-append}
use Rattle.std.proofs.lemmas.List.Elements.{All-pop}
use Rattle.amqp_session_states.specs.declared.delivery_state.DeliveryState.{DeliveryState}

-- one copy is used
one-used : (r : Option (Option DeliveryState)) → IsSome r → length (option_to_list r) ≡ 1
one-used None some = absurd (false≢true some)
one-used (Some s) some = refl

module _ (state : Option DeliveryState) (old new : List (Option DeliveryState)) (r : Option (Option DeliveryState)) (is : old ≡ new ++ option_to_list r) (each : All (λ s. s ≡ state) old) where
  -- those that are left
  pub copies-left : All (λ s. s ≡ state) new
  copies-left = (All-pop (λ s. s ≡ state) old new r is each).0

  -- the one that is used
  pub copy-used : (used : Option DeliveryState) → IsSome r → used ≡ option_flatten r → used ≡ state
  copy-used used some flat = flat ∙ by r some (All-pop (λ s. s ≡ state) old new r is each).1
    where
      by : (o : Option (Option DeliveryState)) → IsSome o → IfSome o (λ s. s ≡ state) → option_flatten o ≡ state
      by None some holds = absurd (false≢true some)
      by (Some s) some holds = holds

  -- there was one more
  pub copies-before : IsSome r → length old ≡ length new + 1
  copies-before some =
      ap (λ (xs : List (Option DeliveryState)). length xs) is
      ∙ length-append new (option_to_list r)
      ∙ ap (λ (n : ℕ). length new + n) (one-used r some)
