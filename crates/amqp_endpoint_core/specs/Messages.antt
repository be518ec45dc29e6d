-- How a message is sent as its bytes (part 2, 2.6.12; part 3, 3.2).
use Rattle.std.specs.Prelude.{◌≡◌, ◌^◌, ℕ, List, length, Option, Some, None}
use Rattle.amqp_link_message.specs.declared.sendable.Sendable.{Sendable}
use Rattle.amqp_endpoint_model.specs.declared.call.Sending.{Sending}
use Rattle.amqp_endpoint_model.specs.declared.call.Call.TheVariants.{Send}
use Rattle.amqp_endpoint_model.specs.declared.error.EndpointError.{EndpointError}
use Rattle.amqp_endpoint_model.specs.declared.answer.Sent.{Sent}
use Rattle.amqp_endpoint_model.specs.Relay.{Relations}
use Rattle.amqp_endpoint_model.specs.Said.{message_sent}
use Rattle.amqp_endpoint_model.specs.State.{State}
use Rattle.amqp_endpoint_model.specs.Step.{IsRefused, SessionsDo}

-- what is to be sent, by the bytes of its sections
abbrev pub sending_of : {B : Type 0} → Sendable B → List ℕ → Sending
sending_of sendable payload =
    record { payload = payload; message_format = sendable.message_format; settled = sendable.settled }

module _ {S : Type 0} (does : Relations S) {B : Type 0} where
  -- it is sent as the bytes of its sections, one behind the other
  abbrev pub IsSent : Option (List ℕ) → State S → ℕ → Sendable B → Sent → State S → Type 0
  IsSent None old link sendable sent new = ⊥
  IsSent (Some payload) old link sendable sent new =
      SessionsDo does old (Send link (sending_of sendable payload)) (message_sent sent.tag sent.outcome) new

  -- these are refused so; one of which a section is too long to be written is refused as any of 2^32 bytes is
  abbrev pub IsUnsent : Option (List ℕ) → State S → ℕ → Sendable B → EndpointError → Type 0
  IsUnsent None old link sendable e =
      (payload : List ℕ) → length payload ≡ 2 ^ 32 → IsRefused does old (Send link (sending_of sendable payload)) e
  IsUnsent (Some payload) old link sendable e =
      IsRefused does old (Send link (sending_of sendable payload)) e
