-- What the calls do that concern sessions and links (part 2, 2.5, 2.6).
use Rattle.std.specs.Prelude.{◌≡◌, ℕ, false, List, [], ◌∷◌, Option, Some, None, Result, Ok, Err, ⊤}
use Rattle.amqp_session_types.specs.declared.channels.IncomingChannel.{IncomingChannel}
use Rattle.amqp_session_types.specs.declared.refusals.TryEndError.{TryEndError}
use Rattle.amqp_session_performatives.specs.declared.session_frame.SessionFrame.{SessionFrame}
use Rattle.amqp_link.specs.declared.end.End.{End}
use Rattle.amqp_endpoint_tables.specs.LinkState.{place_at as link_place}
use Rattle.amqp_endpoint_tables.specs.State.{is_complete, place_at}
use Rattle.amqp_endpoint_tables.specs.Steps.{EndTold}
use Rattle.amqp_session_states.specs.declared.outcome.Outcome.{Outcome}
use Rattle.amqp_endpoint_model.specs.declared.call.Disposal.{Disposal}
use Rattle.amqp_endpoint_model.specs.declared.call.Sending.{Sending}
use Rattle.amqp_endpoint_model.specs.declared.call.Call.{Call}
use Rattle.amqp_endpoint_model.specs.declared.call.Call.TheVariants as call
use Rattle.amqp_endpoint_model.specs.declared.error.EndpointError.{EndpointError}
use Rattle.amqp_endpoint_model.specs.declared.event.Event.{Event}
use Rattle.amqp_endpoint_model.specs.Said.{Said, attaching, count, credit_is, done, link_closed, session_begun}
use Rattle.amqp_endpoint_model.specs.Said.{message_sent, tried_end, truth, waiting}
use Rattle.amqp_endpoint_attached.specs.Links.{receiver_by, sender_by}
use Rattle.amqp_endpoint_linking.specs.Calling.{Accepts, BarsAccepting, BarsBeginning, BarsEnding, Begins, EndsOwn}
use Rattle.amqp_endpoint_link_calls.specs.Refusals.{BarsAttaching, BarsResuming}
use Rattle.amqp_endpoint_link_calls.specs.Calling.{BarsDetach, BarsDrain, BarsGrant, Does, DoneAt}
use Rattle.amqp_endpoint_link_calls.specs.Calling.{detaches, gives_credit, wants_drain}
use Rattle.amqp_endpoint_link_calls.specs.Closing.{BarsClosing, ClosedAt}
use Rattle.amqp_endpoint_link_calls.specs.Places.{end_of}
use Rattle.amqp_endpoint_link_calls.specs.Seeing.{credit_told}
use Rattle.amqp_endpoint_link_calls.specs.Waiting.{BarsWaiting, TurnTold, held_told}
use Rattle.amqp_endpoint.specs.declared.linked.LinkedSessions.{LinkedSessions}
use Rattle.amqp_endpoint_link_calls.specs.Disposing.{DisposedAt, DisposedOneAt}
use Rattle.amqp_endpoint_link_calls.specs.Refusing.{BarsDisposing, BarsDisposingOne, refusal_of}
use Rattle.amqp_endpoint.specs.Attaching.{LinkAttached, LinkResumed}
use Rattle.amqp_endpoint.specs.Sending.{BarsSending, SendsMessage}

-- a session begins here, and no link changes
pub record BeginsOwn (old : LinkedSessions) (number : ℕ) (frames : List SessionFrame) (new : LinkedSessions)
    : Type 0 where
  pub begins : Begins old.talk number frames new.talk
  pub same : new.links ≡ old.links

-- one begins that the peer asks for
pub record AcceptsOwn (old : LinkedSessions) (channel : IncomingChannel) (number : ℕ) (frames : List SessionFrame)
    (new : LinkedSessions) : Type 0 where
  pub accepts : Accepts old.talk channel number frames new.talk
  pub same : new.links ≡ old.links

-- whether the peer's End came is told once, without a frame
pub record EndIsTold (old : LinkedSessions) (number : ℕ) (told : Result ⊤ TryEndError) (frames : List SessionFrame)
    (new : LinkedSessions) : Type 0 where
  pub tells : EndTold old.talk.sessions number told new.talk.sessions
  pub rest : new ≡ record old { talk = record old.talk { sessions = new.talk.sessions } }
  pub silent : frames ≡ []

-- what try_end answers
abbrev pub answer_of : Option TryEndError → Result ⊤ TryEndError
answer_of None = Ok tt
answer_of (Some e) = Err e

-- a link attaches
abbrev pub Attaches : LinkedSessions → ℕ → ℕ → End → ℕ → List Event → List SessionFrame → LinkedSessions → Type 0
Attaches old limit session link number events frames new =
    LinkAttached old.talk old.links limit session link number events frames new.talk new.links

-- one attaches again
abbrev pub Resumes : LinkedSessions → ℕ → ℕ → ℕ → ℕ → List Event → List SessionFrame → LinkedSessions → Type 0
Resumes old limit link session number events frames new =
    LinkResumed old.talk old.links limit link session number events frames new.talk new.links

-- something is done to the link with a number where a session holds it; where each link is stays
pub record DoneTo (does : Does) (old : LinkedSessions) (link : ℕ) (frames : List SessionFrame) (new : LinkedSessions)
    : Type 0 where
  pub is_done : DoneAt does (link_place old.links link) old.talk [] new.talk frames
  pub same : new.links ≡ old.links

-- a message is sent by a link, and where each link is stays
pub record Sends (limit : ℕ) (old : LinkedSessions) (link : ℕ) (message : Sending) (tag : List ℕ)
    (outcome : Option Outcome) (frames : List SessionFrame) (new : LinkedSessions) : Type 0 where
  pub sends : SendsMessage limit old.sent old.talk old.links link message tag outcome frames new.talk
  pub same : new.links ≡ old.links

-- messages are disposed of, against which nothing speaks, and where each link is stays
pub record Disposes (limit : ℕ) (old : LinkedSessions) (link : ℕ) (messages : List ℕ) (disposal : Disposal)
    (frames : List SessionFrame) (new : LinkedSessions) : Type 0 where
  pub allowed : refusal_of old.talk old.links old.given link messages ≡ None
  pub disposes : DisposedAt limit (link_place old.links link) messages disposal old.talk [] new.talk frames
  pub same : new.links ≡ old.links

-- or one is
pub record DisposesOfOne (limit : ℕ) (old : LinkedSessions) (link message : ℕ) (disposal : Disposal)
    (frames : List SessionFrame) (new : LinkedSessions) : Type 0 where
  pub allowed : refusal_of old.talk old.links old.given link (message ∷ []) ≡ None
  pub disposes : DisposedOneAt limit (link_place old.links link) message disposal old.talk [] new.talk frames
  pub same : new.links ≡ old.links

-- something is told, without a frame, and nothing changes
pub record IsTold (Told : Type 0) (old : LinkedSessions) (frames : List SessionFrame) (new : LinkedSessions)
    : Type 0 where
  pub told : Told
  pub silent : frames ≡ []
  pub same : new ≡ old

-- a call is done, and answers so
abbrev pub Calls : LinkedSessions → ℕ → Call → Said → List SessionFrame → LinkedSessions → Type 0
Calls old limit call.Begin (session_begun number) frames new = BeginsOwn old number frames new
Calls old limit (call.AcceptBegin channel) (session_begun number) frames new =
    AcceptsOwn old channel number frames new
Calls old limit (call.End number) done frames new =
    EndsOwn old.talk old.links number frames new.talk new.links
Calls old limit (call.IsEnded number) (truth answer) frames new =
    IsTold (answer ≡ is_complete (place_at old.talk.sessions number)) old frames new
Calls old limit (call.TryEnd number) (tried_end refusal) frames new =
    EndIsTold old number (answer_of refusal) frames new
Calls old limit (call.AttachSender session settings) (attaching link events) frames new =
    Attaches old limit session (sender_by settings) link events frames new
Calls old limit (call.AttachReceiver session settings) (attaching link events) frames new =
    Attaches old limit session (receiver_by settings) link events frames new
Calls old limit (call.Resume link session) (attaching number events) frames new =
    Resumes old limit link session number events frames new
Calls old limit (call.Detach link) done frames new = DoneTo (detaches false) old link frames new
Calls old limit (call.CloseLink link) (link_closed events) frames new =
    ClosedAt (link_place old.links link) old.talk old.links link [] events new.talk new.links frames
Calls old limit (call.Grant link credit) (credit_is left) frames new =
    DoneTo (gives_credit credit left) old link frames new
Calls old limit (call.Drain link) done frames new = DoneTo wants_drain old link frames new
Calls old limit (call.Credit link) (credit_is left) frames new =
    IsTold (credit_told (end_of old.talk (link_place old.links link)) ≡ Ok left) old frames new
Calls old limit (call.HeldBack session) (count n) frames new =
    IsTold (held_told (place_at old.talk.sessions session) ≡ Ok n) old frames new
Calls old limit (call.Waiting session) (waiting turn) frames new =
    IsTold (TurnTold (place_at old.talk.sessions session) turn) old frames new
Calls old limit (call.Send link message) (message_sent tag outcome) frames new =
    Sends limit old link message tag outcome frames new
Calls old limit (call.Dispose link message disposal) done frames new =
    DisposesOfOne limit old link message disposal frames new
Calls old limit (call.DisposeAll link messages disposal) done frames new =
    Disposes limit old link messages disposal frames new
Calls old limit call answer frames new = ⊥

-- a call is refused so
abbrev pub BarsCall : LinkedSessions → ℕ → Call → EndpointError → Type 0
BarsCall old limit call.Begin e = BarsBeginning old.talk e
BarsCall old limit (call.AcceptBegin channel) e = BarsAccepting old.talk channel e
BarsCall old limit (call.End number) e = BarsEnding old.talk number e
BarsCall old limit (call.AttachSender session settings) e =
    BarsAttaching limit old.talk old.links session (sender_by settings) e
BarsCall old limit (call.AttachReceiver session settings) e =
    BarsAttaching limit old.talk old.links session (receiver_by settings) e
BarsCall old limit (call.Resume link session) e = BarsResuming limit old.talk old.links link session e
BarsCall old limit (call.Detach link) e = BarsDetach old.talk (link_place old.links link) e
BarsCall old limit (call.CloseLink link) e = BarsClosing old.talk (link_place old.links link) e
BarsCall old limit (call.Grant link credit) e = BarsGrant old.talk (link_place old.links link) credit e
BarsCall old limit (call.Drain link) e = BarsDrain old.talk (link_place old.links link) e
BarsCall old limit (call.Credit link) e = credit_told (end_of old.talk (link_place old.links link)) ≡ Err e
BarsCall old limit (call.HeldBack session) e = held_told (place_at old.talk.sessions session) ≡ Err e
BarsCall old limit (call.Waiting session) e = BarsWaiting (place_at old.talk.sessions session) e
BarsCall old limit (call.Send link message) e = BarsSending old.sent old.talk old.links link message e
BarsCall old limit (call.Dispose link message disposal) e =
    BarsDisposingOne limit old.talk old.links old.given link message disposal e
BarsCall old limit (call.DisposeAll link messages disposal) e =
    BarsDisposing limit old.talk old.links old.given link messages disposal e
BarsCall old limit call e = ⊥
