-- What calls answer, as plain data.
use Rattle.std.specs.Prelude.{ℕ, Bool, List, Option, Some, None, Result, Ok, Err, ⊤}
use Rattle.amqp_session_states.specs.declared.outcome.Outcome.{Outcome}
use Rattle.amqp_session_types.specs.declared.refusals.TryCloseError.{TryCloseError}
use Rattle.amqp_session_types.specs.declared.refusals.TryEndError.{TryEndError}
use Rattle.amqp_endpoint_model.specs.declared.error.EndpointError.{EndpointError}
use Rattle.amqp_endpoint_model.specs.declared.event.Event.{Event}
use Rattle.amqp_endpoint_model.specs.declared.answer.Answer.{Answer}
use Rattle.amqp_endpoint_model.specs.declared.answer.Answer.TheVariants.{Done, Refused, Fed, Pulled, Count, Truth}
use Rattle.amqp_endpoint_model.specs.declared.answer.Answer.TheVariants.{TriedClose, Session, TriedEnd, Attaching}
use Rattle.amqp_endpoint_model.specs.declared.answer.Answer.TheVariants.{LinkClosed, Credit, Waiting, Sent}
use Rattle.amqp_endpoint_model.specs.declared.answer.Reply.{Reply}

pub data Said : Type 0 where
  done : Said
  refused : EndpointError → Said
  -- the events, and the fault
  fed : List Event → Option EndpointError → Said
  -- the protocol header or one frame
  pulled : Option (List ℕ) → Said
  count : ℕ → Said
  truth : Bool → Said
  -- the refusal of try_close, if any
  tried_close : Option TryCloseError → Said
  -- the number of a session that begins
  session_begun : ℕ → Said
  -- the refusal of try_end, if any
  tried_end : Option TryEndError → Said
  -- the number of a link that attaches, and what comes of it at once
  attaching : ℕ → List Event → Said
  -- the outcomes that closing a link fails
  link_closed : List Event → Said
  -- the credit of a link
  credit_is : ℕ → Said
  -- the links of which transfers wait, in turn, each with how many
  waiting : List (ℕ × ℕ) → Said
  -- the tag of a message that is sent, and its outcome where it went settled
  message_sent : List ℕ → Option Outcome → Said

-- why it is refused, if it is
abbrev pub refusal_in : {E : Type 0} → Result ⊤ E → Option E
refusal_in (Ok u) = None
refusal_in (Err e) = Some e

abbrev pub said : Answer → Said
said Done = done
said (Refused e) = refused e
said (Fed f) = fed (f.events.items) f.fault
said (Pulled None) = pulled None
said (Pulled (Some bytes)) = pulled (Some (bytes.items))
said (Count n) = count n
said (Truth b) = truth b
said (TriedClose (Ok u)) = tried_close None
said (TriedClose (Err e)) = tried_close (Some e)
said (Session number) = session_begun number
said (TriedEnd (Ok u)) = tried_end None
said (TriedEnd (Err e)) = tried_end (Some e)
said (Attaching a) = attaching a.link (a.events.items)
said (LinkClosed events) = link_closed (events.items)
said (Credit n) = credit_is n
said (Waiting turn) = waiting (turn.items)
said (Sent s) = message_sent s.tag s.outcome

-- an answer, and how many answers of bytes pull still gives behind it
pub record Told : Type 0 where
  pub answer : Said
  pub queued : ℕ

abbrev pub told : Reply → Told
told r = record { answer = said r.answer; queued = r.queued }
