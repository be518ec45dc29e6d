-- Nothing waits in a session that begins, or that accepts one of the peer's.
use Rattle.std.proofs.Common.{◌≡◌, ℕ, refl, subst, sym}
use Rattle.std.specs.Prelude.{Option, Some, None}
use Rattle.std.proofs.lemmas.List.Elements.{All-nil}
use Rattle.amqp_session_types.specs.declared.channels.IncomingChannel.{IncomingChannel}
use Rattle.amqp_session_types.specs.declared.channels.OutgoingChannel.{OutgoingChannel}
use Rattle.amqp_session_performatives.specs.declared.begin.Begin.{Begin}
use Rattle.amqp_session_core.specs.State.{State}
use Rattle.amqp_endpoint_links.specs.declared.session.SessionFlow.{SessionFlow}
use Rattle.amqp_endpoint_links.specs.Beginning.{accepted_with, begun_state}
use Rattle.amqp_endpoint_fitting.specs.Fits.{QueueFits, QueuesFit}

abbrev pub Holds : {R : Type 0} → OutgoingChannel → ℕ → State R → Type 0
Holds channel limit s = ((s.fields).channel ≡ channel) × QueuesFit channel.0 limit (s.outgoing).queues

module _ (R : Type 0) where
  accepted-holds : (channel : OutgoingChannel) (incoming : IncomingChannel) (begin : Begin) (flow : Option SessionFlow)
      (first window limit : ℕ) → Holds {R = R} channel limit (accepted_with channel incoming begin flow first window)
  accepted-holds channel incoming begin None first window limit =
      (refl, record { each = All-nil (QueueFits channel.0 limit) })
  accepted-holds channel incoming begin (Some flow) first window limit =
      (refl, record { each = All-nil (QueueFits channel.0 limit) })

module _ {R : Type 0} where
  pub holds-begun : (channel : OutgoingChannel) (first window limit : ℕ) (new : State R)
      → new ≡ begun_state channel first window → Holds channel limit new
  holds-begun channel first window limit new is =
      subst (λ (s : State R). Holds channel limit s) (sym is)
      (refl, record { each = All-nil (QueueFits channel.0 limit) })

  pub holds-accepted : (channel : OutgoingChannel) (incoming : IncomingChannel) (begin : Begin)
      (flow : Option SessionFlow)
      (first window limit : ℕ) (new : State R) → new ≡ accepted_with channel incoming begin flow first window
      → Holds channel limit new
  holds-accepted channel incoming begin flow first window limit new is =
      subst (λ (s : State R). Holds channel limit s) (sym is)
      (accepted-holds R channel incoming begin flow first window limit)
