-- How an attachment of a sending link ends: part 2, 2.6.4 to 2.6.6.
use Rattle.std.specs.Prelude.{◌≡◌, ◌⊎◌, Bool, true, false, Option, Some, None, option_map, Result, Ok, Err}
use Rattle.amqp_session_types.specs.declared.error.Error.{Error}
use Rattle.amqp_link_base.specs.State.{after_break}
use Rattle.amqp_link_base.specs.Moves.{broken_off, detached, is_closed, sent_detach, took_detach}
use Rattle.amqp_link_base.specs.declared.base.LinkBase.{LinkBase}
use Rattle.amqp_link_base.specs.declared.detached.Detached.{Detached}
use Rattle.amqp_link_unsettled.specs.Messages.{MessageLists, failed, interrupted}
use Rattle.amqp_link_unsettled.specs.declared.resolution.Failure.{Failure}
use Rattle.amqp_link_unsettled.specs.declared.resolution.Failure.TheVariants as failure
use Rattle.amqp_link_sender.specs.declared.ending.DetachRefusal.{DetachRefusal}
use Rattle.amqp_link_sender.specs.declared.ending.DetachRefusal.TheVariants as refusal
use Rattle.amqp_link_sender.specs.Sending.{Sending}

-- nothing is sent on any more; where the link is gone, its messages end without an outcome
abbrev pub ended : MessageLists → Bool → Failure → MessageLists
ended m true why = failed m why
ended m false why = interrupted m

-- the own Detach is sent, which closes the link or doesn't
abbrev pub detach_sent : Sending → Bool → Option Sending
detach_sent s closed =
    option_map (λ (b : LinkBase). record s { base = b; messages = ended s.messages closed failure.Closed })
    (sent_detach s.base closed)

-- why the messages of a link that the peer closes have no outcome
abbrev pub why_closed : Option Error → Failure
why_closed None = failure.RemoteClosed
why_closed (Some error) = failure.RemoteClosedWithError

-- the error of a Detach that closes the link
abbrev pub given_error : Bool → Option Error → Option Error
given_error true error = error
given_error false error = None

-- it is kept
abbrev pub error_kept : Option Error → Option Error → Option Error
error_kept None kept = kept
error_kept (Some error) kept = Some error

-- the peer's Detach comes, which closes the link or doesn't, with an error or without
abbrev pub detach_taken : Sending → Bool → Option Error → Option Sending
detach_taken s closed error =
    option_map
    (λ (b : LinkBase).
    record s {
      base = b;
      messages = ended s.messages closed (why_closed error);
      remote_error = error_kept (given_error closed error) s.remote_error;
    })
    (took_detach s.base closed)

-- the connection or the session is over
abbrev pub broken : Sending → Sending
broken s =
    record s {
      base = broken_off s.base;
      messages = ended s.messages (is_closed (after_break s.base.local_state)) failure.Closed;
    }

-- the link is closed while it is at rest
abbrev pub closed_at_rest : Sending → Sending
closed_at_rest s = record s { messages = failed s.messages failure.Closed }

-- the peer's Detach is allowed and taken, or there is no memory for its error, or it isn't allowed; in these two cases
-- the link stays
abbrev pub TakesDetach : Option Sending → Sending → Result Detached DetachRefusal → Sending → Type 0
TakesDetach None old answer new = (answer ≡ Err refusal.IllegalState) × (new ≡ old)
TakesDetach (Some moved) old answer new =
    ((answer ≡ Err refusal.Memory) × (new ≡ old)) ⊎ ((answer ≡ Ok (detached old.base moved.base)) × (new ≡ moved))
