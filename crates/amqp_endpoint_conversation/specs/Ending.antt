-- How sessions end: here, or by the peer's End (part 2, 2.5.2).
use Rattle.std.specs.Prelude.{◌≡◌, ℕ, List, [], ◌∷◌, ◌++◌, Option, Some, None, Result, Ok, Err, true}
use Rattle.std.specs.Global.{Box}
use Rattle.amqp_session_types.specs.declared.channels.IncomingChannel.{IncomingChannel}
use Rattle.amqp_session_types.specs.declared.channels.OutgoingChannel.{OutgoingChannel}
use Rattle.amqp_session_types.specs.declared.error.Error.{Error}
use Rattle.amqp_session_types.specs.declared.refusals.ConnectionError.{ConnectionError}
use Rattle.amqp_session_types.specs.declared.refusals.ConnectionError.TheVariants.{NotFound, Memory}
use Rattle.amqp_session_types.specs.declared.refusals.SessionError.{SessionError}
use Rattle.amqp_session_types.specs.declared.refusals.SessionError.TheVariants.{IllegalState, Memory as NoMemory}
use Rattle.amqp_session_performatives.specs.declared.end.End.{End}
use Rattle.amqp_session_performatives.specs.declared.session_frame.SessionFrame.{SessionFrame}
use Rattle.amqp_session_performatives.specs.declared.session_frame.SessionFrameBody.TheVariants as body
use Rattle.amqp_session_core.specs.declared.state.SessionState.{SessionState}
use Rattle.amqp_session_core.specs.declared.state.SessionState.TheVariants.{Mapped}
use Rattle.amqp_endpoint_links.specs.declared.session.AskedSession.{AskedSession}
use Rattle.amqp_endpoint_links.specs.declared.asking.AskingSession.{AskingSession}
use Rattle.amqp_endpoint_tables.specs.declared.place.Place.{Place}
use Rattle.amqp_endpoint_tables.specs.declared.place.Place.TheVariants.{Live}
use Rattle.amqp_endpoint_tables.specs.State.{live_at, reached}
use Rattle.amqp_endpoint_tables.specs.Steps.{Step, Ends, TakesEnd}
use Rattle.amqp_endpoint_conversation.specs.declared.ending.EndHeard.{EndHeard}
use Rattle.amqp_endpoint_conversation.specs.declared.conversation.Conversation.{Conversation}

-- an End with this error (part 2, 2.7.8)
abbrev pub end_frame : OutgoingChannel → Option Error → SessionFrame
end_frame channel error = record { channel = channel.0; body = body.End (record { error = error }) }

module _ {R : Type 0} where
  abbrev pub state_of : Option (Box (AskingSession R)) → Option SessionState
  state_of None = None
  state_of (Some session) = Some session.value.session.local_state

  -- the session with this number has begun at both ends, and ended at neither (part 2, 2.5.5)
  abbrev pub IsMapped : Conversation R → ℕ → Type 0
  IsMapped c number = state_of (live_at c.sessions number) ≡ Some Mapped

  -- a session ends here: it keeps its channel until the peer's End, its own End is to be sent, and it is handed out
  pub record EndsHere (old : Conversation R) (out : List SessionFrame) (number : ℕ) (error : Option Error)
      (session : Box (AskingSession R)) (new : Conversation R) (out_new : List SessionFrame) : Type 0 where
    pub channel : OutgoingChannel
    pub stepped : Step old.sessions (Ends number channel session true) new.sessions
    pub rest : new ≡ record old { sessions = new.sessions }
    pub queued : out_new ≡ out ++ end_frame channel error ∷ []

  -- why none ends here
  abbrev pub RefusesEnd : Conversation R → ℕ → SessionError → Type 0
  RefusesEnd c number IllegalState = IsMapped c number → ⊥
  RefusesEnd c number NoMemory = IsMapped c number
  RefusesEnd c number e = ⊥

  -- the answer to the peer's End, by where its session stood: the own End where that hadn't gone, without an error
  abbrev pub EndReply : Place (Box AskedSession) (Box (AskingSession R)) → Option (Box (AskingSession R))
      → List SessionFrame → List SessionFrame → Type 0
  EndReply (Live channel session) ended out out_new =
      (ended ≡ Some session) × (out_new ≡ out ++ end_frame channel None ∷ [])
  EndReply stood ended out out_new = (ended ≡ None) × (out_new ≡ out)

  -- the peer's End is taken
  pub record EndsThere (old : Conversation R) (out : List SessionFrame) (channel : IncomingChannel) (end : End)
      (heard : EndHeard R) (new : Conversation R) (out_new : List SessionFrame) : Type 0 where
    pub stood : Place (Box AskedSession) (Box (AskingSession R))
    pub stepped : Step old.sessions (TakesEnd heard.number channel end stood) new.sessions
    pub reply : EndReply stood heard.ended out out_new
    pub rest : new ≡ record old { sessions = new.sessions }

  -- how the peer's End is answered
  abbrev pub EndAnswered : Conversation R → List SessionFrame → IncomingChannel → End
      → Result (EndHeard R) ConnectionError → Conversation R → List SessionFrame → Type 0
  EndAnswered old out channel end (Ok heard) new out_new = EndsThere old out channel end heard new out_new
  EndAnswered old out channel end (Err NotFound) new out_new =
      (reached old.sessions channel.0 ≡ None) × (new ≡ old) × (out_new ≡ out)
  EndAnswered old out channel end (Err Memory) new out_new = (new ≡ old) × (out_new ≡ out)
  EndAnswered old out channel end (Err e) new out_new = ⊥
