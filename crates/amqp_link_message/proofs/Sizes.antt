-- A payload's size, up to 2^32.
use Rattle.std.proofs.Common.{◌≡◌, ◌⊎◌, inl, inr, ℕ, ◌^◌, min, List, length, Option, Some, None, refl, ap, arith}
use Rattle.serde_amqp_item.specs.declared.error.Error.{Error}
use Rattle.serde_amqp_item.specs.declared.error.Error.TheVariants.{InvalidLength}
use Rattle.serde_amqp_ser.specs.Sizes.{HasLength, IsTooLong}
use Rattle.amqp_link_message.specs.Payload.{capped_size}

pub counted : (text : Option (List ℕ)) (n : ℕ) → HasLength text n → min n (2 ^ 32) ≡ capped_size text
counted None n has = absurd has
counted (Some bytes) n has = ap (λ (k : ℕ). min k (2 ^ 32)) has

pub uncounted : (text : Option (List ℕ)) (e : Error) → (text ≡ None) ⊎ (IsTooLong text × (e ≡ InvalidLength))
    → 2 ^ 32 ≡ capped_size text
uncounted None e why = refl
uncounted (Some bytes) e (inl why) = absurd cc
uncounted (Some bytes) e (inr why) = omega (arith, why.0)

pub ruleset sizes = (counted, uncounted)
