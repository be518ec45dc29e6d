-- The sessions of an endpoint that has none: whatever says something of one is refused.
use Rattle.std.specs.Prelude.{◌≡◌, ℕ, [], false, Option, Some, None}
use Rattle.amqp_session_types.specs.declared.refusals.ConnectionError.{ConnectionError}
use Rattle.amqp_session_types.specs.declared.refusals.ConnectionError.TheVariants.{NotImplemented, NotFound}
use Rattle.amqp_session_types.specs.declared.refusals.TryEndError.TheVariants.{RemoteEndNotReceived}
use Rattle.amqp_session_frames.specs.declared.frame.FrameBody.{FrameBody}
use Rattle.amqp_session_frames.specs.declared.frame.FrameBody.TheVariants.{Begin}
use Rattle.amqp_endpoint_model.specs.declared.call.Call.{Call}
use Rattle.amqp_endpoint_model.specs.declared.call.Call.TheVariants.{Begin as BeginCall, AcceptBegin, End, IsEnded}
use Rattle.amqp_endpoint_model.specs.declared.call.Call.TheVariants.{TryEnd, AttachSender, AttachReceiver, Detach}
use Rattle.amqp_endpoint_model.specs.declared.call.Call.TheVariants.{CloseLink, Grant, Drain, Credit, HeldBack, Waiting}
use Rattle.amqp_endpoint_model.specs.declared.call.Call.TheVariants.{Resume, Send, Dispose, DisposeAll}
use Rattle.amqp_endpoint_model.specs.declared.error.EndpointError.{EndpointError}
use Rattle.amqp_endpoint_model.specs.declared.error.EndpointError.TheVariants.{Connection, UnknownLink, UnknownSession}
use Rattle.amqp_endpoint_model.specs.Relay.{Relations}
use Rattle.amqp_endpoint_model.specs.Said.{Said, truth, tried_end}
use Rattle.amqp_endpoint_core.specs.declared.no_sessions.NoSessions.{NoSessions}

-- a Begin that answers none asks for a session, which is not supported (part 2, 2.7.2); any other one is on a channel
-- that no session has (part 2, 2.5.1)
abbrev pub begin_refusal : Option ℕ → ConnectionError
begin_refusal None = NotImplemented
begin_refusal (Some channel) = NotFound

-- why a performative of a session is refused: no session has its channel
abbrev pub session_refusal : FrameBody → ConnectionError
session_refusal (Begin b) = begin_refusal b.remote_channel
session_refusal body = NotFound

-- what a call of a session that isn't there answers: it didn't end (part 2, 2.5.2)
abbrev pub no_session_says : Call → Option Said
no_session_says (IsEnded number) = Some (truth false)
no_session_says (TryEnd number) = Some (tried_end (Some RemoteEndNotReceived))
no_session_says call = None

-- why a call is refused: no session begins, none can be ended or have links (part 2, 2.5.1, 2.5.2, 2.6)
abbrev pub call_refusal : Call → Option EndpointError
call_refusal BeginCall = Some (Connection NotImplemented)
call_refusal (AcceptBegin channel) = Some (Connection NotImplemented)
call_refusal (End number) = Some UnknownSession
call_refusal (AttachSender session settings) = Some UnknownSession
call_refusal (AttachReceiver session settings) = Some UnknownSession
call_refusal (Resume link session) = Some UnknownLink
call_refusal (Detach link) = Some UnknownLink
call_refusal (CloseLink link) = Some UnknownLink
call_refusal (Grant link credit) = Some UnknownLink
call_refusal (Drain link) = Some UnknownLink
call_refusal (Credit link) = Some UnknownLink
call_refusal (HeldBack session) = Some UnknownSession
call_refusal (Waiting session) = Some UnknownSession
call_refusal (Send link message) = Some UnknownLink
call_refusal (Dispose link message disposal) = Some UnknownLink
call_refusal (DisposeAll link messages disposal) = Some UnknownLink
call_refusal call = None

abbrev pub no_sessions : Relations NoSessions
no_sessions =
    record {
      fresh = λ connection first window. record { connection = connection };
      connection = λ s. s.connection;
      moved = λ s connection. record { connection = connection };
      takes = λ s limit channel body frames events new. ⊥;
      refuses = λ s limit channel body e new. (e ≡ Connection (session_refusal body)) × (new ≡ s);
      calls = λ s limit call answer frames new. (no_session_says call ≡ Some answer) × (frames ≡ []) × (new ≡ s);
      bars = λ s limit call e. call_refusal call ≡ Some e;
      within = λ limit s. Unit {0};
      idle = λ s. Unit {0};
      closes = λ s new. new ≡ s;
      finishes = λ s new. new ≡ s;
    }
