-- Laws of sessions that don't go on.
use Rattle.std.proofs.Common.{◌≡◌, ◌&&◌, Bool, true, false, not, refl, sym, ◌∙◌, ap}
use Rattle.amqp_endpoint_model.specs.declared.phase.Phase.{Phase}
use Rattle.amqp_endpoint_model.specs.declared.phase.Phase.TheVariants.{Unconnected, Greeting, Running, Over}
use Rattle.amqp_endpoint_model.specs.Relay.{Relations}
use Rattle.amqp_endpoint_model.specs.State.{is_running}
use Rattle.amqp_endpoint_core.specs.Connected.{RestIdle, StayIdle}

-- what goes on reads frames
pub goes_running : (phase : Phase) (own : Bool) → (is_running phase && not own) ≡ true → phase ≡ Running
goes_running Unconnected own is = absurd (cc)
goes_running Greeting own is = absurd (cc)
goes_running Running own is = refl
goes_running Over own is = absurd (cc)

module _ {S : Type 0} (does : Relations S) (phase : Phase) (s new : S) where
  -- none goes on behind a step that has none go on
  pub idle_still : StayIdle does s new → RestIdle does phase s → RestIdle does phase new
  idle_still stay rest out = stay (rest out)

  -- where frames are read any may
  pub idle_running : phase ≡ Running → RestIdle does phase new
  idle_running runs out = let wrong : true ≡ false = sym (ap is_running runs) ∙ out in absurd (cc)
