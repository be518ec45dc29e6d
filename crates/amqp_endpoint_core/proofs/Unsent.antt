-- Why a message isn't sent as the bytes of its sections.
use Rattle.std.proofs.Common.{◌≡◌, ℕ, ◌^◌, min, List, length, Option, Some, None, sym, subst, ◌∙◌, arith}
use Rattle.amqp_link_message.specs.declared.sendable.Sendable.{Sendable}
use Rattle.amqp_link_message.specs.Payload.{capped_size}
use Rattle.amqp_endpoint_model.specs.declared.call.Call.TheVariants.{Send}
use Rattle.amqp_endpoint_model.specs.declared.call.Sending.{Sending}
use Rattle.amqp_endpoint_model.specs.declared.error.EndpointError.{EndpointError}
use Rattle.amqp_endpoint_model.specs.Relay.{Relations}
use Rattle.amqp_endpoint_model.specs.State.{State}
use Rattle.amqp_endpoint_model.specs.Step.{IsRefused}
use Rattle.amqp_endpoint_core.specs.Messages.{IsUnsent, sending_of}

module _ {S : Type 0} (does : Relations S) {B : Type 0} (old : State S) (link : ℕ) (sendable : Sendable B) where
  -- what refuses all of its size refuses it
  pub unsent : (text : Option (List ℕ)) (size : ℕ) (e : EndpointError) → size ≡ capped_size text
      → ((message : Sending) → min (length message.payload) (2 ^ 32) ≡ size → IsRefused does old (Send link message) e)
      → IsUnsent does text old link sendable e
  unsent None size e is refuses =
      λ payload long. refuses (sending_of sendable payload) (whole (length payload) long ∙ sym is)
    where
      whole : (n : ℕ) → n ≡ 2 ^ 32 → min n (2 ^ 32) ≡ 2 ^ 32
      whole n e = omega (arith, e)
  unsent (Some payload) size e is refuses = refuses (sending_of sendable payload) (sym is)

  -- what refuses its bytes refuses it
  pub unsent_so : (text : Option (List ℕ)) (payload : List ℕ) (e : EndpointError) → text ≡ Some payload
      → IsRefused does old (Send link (sending_of sendable payload)) e → IsUnsent does text old link sendable e
  unsent_so text payload e is refuses =
      subst (λ (t : Option (List ℕ)). IsUnsent does t old link sendable e) (sym is) refuses
