-- How a session takes the frames of its links, part by part.
use Rattle.std.specs.Prelude.{◌≡◌, ℕ, ◌+◌, ◌*◌, List, Option, Some, None, Result, Ok, Err, nat_le, if◌then◌else◌}
use Rattle.std.specs.Prelude.{slice_index_or}
use Rattle.amqp_session_types.specs.declared.handles.OutputHandle.{OutputHandle}
use Rattle.amqp_session_types.specs.declared.refusals.SessionError.{SessionError}
use Rattle.amqp_session_performatives.specs.declared.transfer.Transfer.{Transfer}
use Rattle.amqp_session_performatives.specs.declared.session_frame.SessionFrame.{SessionFrame}
use Rattle.amqp_session_core.specs.declared.fields.SessionFields.{SessionFields}
use Rattle.amqp_session_core.specs.declared.relay.RelayError.{RelayError}
use Rattle.amqp_session_core.specs.declared.relay.RelayError.TheVariants as relay
use Rattle.amqp_session_core.specs.declared.relay.TransferAnswer.{TransferAnswer}
use Rattle.amqp_session_core.specs.Frames.{session_flow}
use Rattle.amqp_session_core.specs.Relay.{session_error}
use Rattle.amqp_session_core.specs.State.{StepsAt}
use Rattle.amqp_session_core.specs.Steps.{next_behind}

-- the link at a handle answers a frame, if there is one; refused for want of memory, nothing changes
abbrev pub AnswersAt : {R X : Type 0} → (R → Result X RelayError → R → Type 0) → Option R → ℕ → List (Option R)
    → Result X RelayError → List (Option R) → Type 0
AnswersAt gives None handle old told new = (told ≡ Err relay.UnattachedHandle) × (new ≡ old)
AnswersAt gives (Some link) handle old (Err relay.Memory) new = new ≡ old
AnswersAt gives (Some link) handle old told new = StepsAt (λ before after. gives before told after) old handle new

abbrev pub LinkAnswers : {R X : Type 0} → (R → Result X RelayError → R → Type 0) → ℕ → List (Option R)
    → Result X RelayError → List (Option R) → Type 0
LinkAnswers gives handle old told new = AnswersAt gives (slice_index_or old handle None) handle old told new

-- a transfer is refused before it reaches a link, or the link answers it
abbrev pub TransferAt : {R T : Type 0} → (R → Transfer → List ℕ → Result (TransferAnswer T) RelayError → R → Type 0)
    → List (Option R) → Result OutputHandle SessionError → Transfer → List ℕ
    → Result (OutputHandle × TransferAnswer T) SessionError → List (Option R) → Type 0
TransferAt gives old (Err e) transfer payload result new = (result ≡ Err e) × (new ≡ old)
TransferAt gives old (Ok handle) transfer payload (Ok answer) new =
    (answer.0 ≡ handle) × LinkAnswers (λ before said after. gives before transfer payload said after) handle.0 old
    (Ok answer.1) new
TransferAt gives old (Ok handle) transfer payload (Err e) new =
    (error : RelayError) × (e ≡ session_error error)
    × LinkAnswers (λ before said after. gives before transfer payload said after) handle.0 old (Err error) new

-- one more transfer was taken
pub record CountsOn (fields : SessionFields) (taken number : ℕ) (flow : Option SessionFrame)
    (new_fields : SessionFields) (new_taken : ℕ) : Type 0 where
  pub next : new_fields ≡ record fields { next_incoming_id = next_behind fields.next_incoming_id }
  pub told : flow ≡ (if nat_le fields.incoming_window (2 * (taken + 1)) then Some
      (session_flow new_fields number) else None)
  pub counted : new_taken ≡ (if nat_le fields.incoming_window (2 * (taken + 1)) then 0 else taken + 1)
