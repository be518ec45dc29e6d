-- Laws of what waits in sessions, which is within the limit.
use Rattle.std.proofs.Common.{◌≡◌, ◌≤◌, arith, ℕ, Option, sym, ◌∙◌, subst}
use Rattle.amqp_endpoint_model.specs.declared.phase.Phase.{Phase}
use Rattle.amqp_endpoint_model.specs.declared.phase.Phase.TheVariants.{Unconnected, Running}
use Rattle.amqp_endpoint_model.specs.Relay.{Relations}
use Rattle.amqp_endpoint_model.specs.State.{limit_of}
use Rattle.amqp_endpoint_core.specs.Connected.{StayWithin, WaitWithin}

module _ {S : Type 0} (does : Relations S) (phase : Phase) (limit : Option ℕ) (s new : S) where
  -- it stays so
  pub wait_still : StayWithin does s new → WaitWithin does phase limit s → WaitWithin does phase limit new
  wait_still stay waits = (
    stay (limit_of limit) (limit_of limit) (omega arith) waits.0,
    λ un. stay 512 512 (omega arith) (waits.1 un),
  )

  -- the connection is open now
  pub wait_opened : StayWithin does s new → WaitWithin does phase limit s → WaitWithin does Running limit new
  wait_opened stay waits = (
    stay (limit_of limit) (limit_of limit) (omega arith) waits.0,
    λ un. let wrong : Running ≡ Unconnected = un in absurd (cc),
  )

  -- it stays within each limit that a peer may set (part 2, 2.7.1)
  pub wait_least : ((most : ℕ) → 512 ≤ most → does.within most s → does.within most new) → 512 ≤ limit_of limit
      → WaitWithin does phase limit s → WaitWithin does phase limit new
  wait_least stay least waits = (stay (limit_of limit) least waits.0, λ un. stay 512 (omega arith) (waits.1 un))

  -- nothing waits
  pub wait_none : ((most : ℕ) → does.within most new) → WaitWithin does phase limit new
  wait_none none = (none (limit_of limit), λ un. none 512)

  -- it is within the limit that they were told of, and there is a connection
  pub wait_told : (told : ℕ) → told ≡ limit_of limit → phase ≡ Running → does.within told new
      → WaitWithin does phase limit new
  wait_told told is runs within = (
    subst (λ (n : ℕ). does.within n new) is within,
    λ un. let wrong : Unconnected ≡ Running = sym un ∙ runs in absurd (cc),
  )

  -- it is within the limit that they were told of, and within each where no session goes on
  pub wait_sent : (told : ℕ) → told ≡ limit_of limit → does.within told new
      → (phase ≡ Unconnected → (most : ℕ) → does.within most new) → WaitWithin does phase limit new
  wait_sent told is within none = (subst (λ (n : ℕ). does.within n new) is within, λ un. none un 512)

  -- so they can be told of this limit
  pub waits_at : (told : ℕ) → told ≡ limit_of limit → WaitWithin does phase limit s → does.within told s
  waits_at told is waits = subst (λ (n : ℕ). does.within n s) (sym is) waits.0
