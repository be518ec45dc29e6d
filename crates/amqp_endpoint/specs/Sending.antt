-- How an endpoint sends messages and disposes of those that came (part 2, 2.6.12, 2.7.5, 2.7.6).
use Rattle.std.specs.Prelude.{◌≡◌, ◌⊎◌, ℕ, ◌-◌, ◌^◌, ◌<◌, nat_lt, if◌then◌else◌, List, [], length, Bool, true, false}
use Rattle.std.specs.Prelude.{Option, Some, None}
use Rattle.std.specs.Int.{w64, to_be_bytes}
use Rattle.amqp_session_performatives.specs.declared.session_frame.SessionFrame.{SessionFrame}
use Rattle.amqp_session_states.specs.declared.outcome.Outcome.{Outcome}
use Rattle.amqp_session_states.specs.declared.outcome.Outcome.TheVariants.{Accepted}
use Rattle.amqp_endpoint_tables.specs.LinkState.{place_at}
use Rattle.amqp_endpoint_model.specs.declared.call.Sending.{Sending}
use Rattle.amqp_endpoint_model.specs.declared.error.EndpointError.{EndpointError}
use Rattle.amqp_endpoint_model.specs.declared.error.EndpointError.TheVariants.{Memory, NumbersUsedUp}
use Rattle.amqp_endpoint_linking.specs.Linking.{Links, Talk}
use Rattle.amqp_endpoint_link_calls.specs.Calling.{DoneAt}
use Rattle.amqp_endpoint_link_calls.specs.Sending.{refusal_at, sends}

-- the tag of a message is its number among all that the endpoint accepted, as eight bytes (part 2, 2.8.7)
abbrev pub tag_of : ℕ → List ℕ
tag_of serial = to_be_bytes w64 serial

-- a message that went settled is accepted at once
abbrev pub outcome_of : Bool → Option Outcome
outcome_of true = Some (Accepted (record {}))
outcome_of false = None

-- the link with a number sends a message as the one of this serial number, and its tag and its outcome, where it went
-- settled, are answered
pub record SendsMessage (limit serial : ℕ) (old : Talk) (links : Links) (link : ℕ) (message : Sending) (tag : List ℕ)
    (outcome : Option Outcome) (frames : List SessionFrame) (new : Talk) : Type 0 where
  -- a serial number was left for it
  pub numbered : serial < 2 ^ 64 - 1
  pub settled : Bool
  pub sent : DoneAt (sends limit (tag_of serial) message settled) (place_at links link) old [] new frames
  pub tagged : tag ≡ tag_of serial
  pub told : outcome ≡ outcome_of settled

-- no serial number is left for a message
abbrev pub number_refusal : ℕ → Option EndpointError
number_refusal serial = if nat_lt serial (2 ^ 64 - 1) then None else Some NumbersUsedUp

-- the second refusal counts where there is no first
abbrev pub before : Option EndpointError → Option EndpointError → Option EndpointError
before (Some e) second = Some e
before None second = second

-- why no message of so many bytes is sent by the link with a number as the one of this serial number, if one isn't: the
-- first that holds of what the link and its session refuse, and behind that, that no serial number is left
abbrev pub send_refusal : ℕ → Talk → Links → ℕ → ℕ → Option EndpointError
send_refusal serial talk links link size =
    before (refusal_at talk (place_at links link) (tag_of serial) size) (number_refusal serial)

-- why a message isn't sent: so, or where nothing speaks against it, for want of memory
abbrev pub BarsSending : ℕ → Talk → Links → ℕ → Sending → EndpointError → Type 0
BarsSending serial talk links link message e =
    (send_refusal serial talk links link (length message.payload) ≡ Some e)
    ⊎ ((e ≡ Memory) × (send_refusal serial talk links link (length message.payload) ≡ None))
