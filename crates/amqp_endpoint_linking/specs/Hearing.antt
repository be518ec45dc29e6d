-- What the peer's Begin and End do, and what is told of them (part 2, 2.5.1, 2.5.2).
use Rattle.std.specs.Prelude.{◌≡◌, ◌⊎◌, ℕ, Bool, true, false, List, [], ◌∷◌, Option, Ok, Err}
use Rattle.amqp_session_types.specs.declared.channels.IncomingChannel.{IncomingChannel}
use Rattle.amqp_session_types.specs.declared.error.Error.{Error}
use Rattle.amqp_session_types.specs.declared.refusals.ConnectionError.{ConnectionError}
use Rattle.amqp_session_types.specs.declared.refusals.SessionError.{SessionError}
use Rattle.amqp_session_performatives.specs.declared.begin.Begin.{Begin}
use Rattle.amqp_session_performatives.specs.declared.end.End.{End}
use Rattle.amqp_session_performatives.specs.declared.session_frame.SessionFrame.{SessionFrame}
use Rattle.amqp_session_frames.specs.declared.state.ConnectionState.{ConnectionState}
use Rattle.amqp_session_frames.specs.declared.state.ConnectionState.TheVariants.{OpenClosePipe, ClosePipe}
use Rattle.amqp_session_frames.specs.declared.state.ConnectionState.TheVariants.{CloseSent, Discarding}
use Rattle.amqp_session_frames.specs.declared.state.ConnectionState.TheVariants as state
use Rattle.amqp_endpoint_tables.specs.declared.place.Place.TheVariants as place
use Rattle.amqp_endpoint_conversation.specs.declared.beginning.BeginHeard.{BeginHeard}
use Rattle.amqp_endpoint_conversation.specs.declared.beginning.BeginHeard.TheVariants.{Asked, Begun, Dropped}
use Rattle.amqp_endpoint_conversation.specs.declared.beginning.BeginRefusal.TheVariants.{Connection}
use Rattle.amqp_endpoint_conversation.specs.declared.beginning.BeginRefusal.TheVariants.{Session as SessionRefuses}
use Rattle.amqp_endpoint_conversation.specs.declared.ending.EndHeard.{EndHeard}
use Rattle.amqp_endpoint_conversation.specs.Beginning.{BeginAnswered}
use Rattle.amqp_endpoint_conversation.specs.Ending.{EndAnswered}
use Rattle.amqp_endpoint_model.specs.declared.error.EndpointError.{EndpointError}
use Rattle.amqp_endpoint_model.specs.declared.error.EndpointError.TheVariants.{Memory}
use Rattle.amqp_endpoint_model.specs.declared.event.Event.{Event}
use Rattle.amqp_endpoint_model.specs.declared.event.Event.TheVariants as event
use Rattle.amqp_endpoint_model.specs.Refusals.{of_connection}
use Rattle.amqp_endpoint_attached.specs.Linked.{gives}
use Rattle.amqp_endpoint_linking.specs.Linking.{Link, Links, Stood, Talk}
use Rattle.amqp_endpoint_linking.specs.GivingBack.{SessionGivenBack}
use Rattle.amqp_endpoint_linking.specs.Calling.{Fails}

-- what is told of the peer's Begin
abbrev pub begin_told : BeginHeard → IncomingChannel → List Event
begin_told (Asked number) channel = event.SessionAsked (record { session = number; channel = channel }) ∷ []
begin_told (Begun number) channel = event.Begun (record { session = number; channel = channel }) ∷ []
begin_told Dropped channel = []

-- the own Close was sent (part 2, 2.4.6)
abbrev pub is_closing : ConnectionState → Bool
is_closing OpenClosePipe = true
is_closing ClosePipe = true
is_closing CloseSent = true
is_closing Discarding = true
is_closing state.End = true
is_closing it = false

-- whether the peer's End is told of: behind the own Close only that of a session that is asked for, as the others ended
-- with the Close
abbrev pub is_told : Bool → Stood → Bool
is_told false stood = true
is_told true (place.Asked channel a) = true
is_told closing stood = false

abbrev pub end_told : Bool → ℕ → Option Error → List Event
end_told true number error = event.Ended (record { session = number; error = error }) ∷ []
end_told false number error = []

-- the peer's Begin is taken, and the links stay as they were
pub record TakesBegin (old : Talk) (links : Links) (channel : IncomingChannel) (begin : Begin)
    (frames : List SessionFrame) (events : List Event) (new : Talk) (links_new : Links) : Type 0 where
  pub heard : BeginHeard
  pub answered : BeginAnswered gives old [] channel begin (Ok heard) new frames
  pub told : events ≡ begin_told heard channel
  pub same : links_new ≡ links

-- the session that it names allows none, and ends by that fault
pub record FailsByBegin (old : Talk) (links : Links) (channel : IncomingChannel) (begin : Begin)
    (frames : List SessionFrame) (events : List Event) (new : Talk) (links_new : Links) : Type 0 where
  pub number : ℕ
  pub fault : SessionError
  pub mid : Talk
  pub refused : BeginAnswered gives old [] channel begin (Err (SessionRefuses number fault)) mid []
  pub fails : Fails mid links number fault frames events new links_new

-- the peer's Begin is heard
abbrev pub HearsBegin : Talk → Links → IncomingChannel → Begin → List SessionFrame → List Event → Talk → Links → Type 0
HearsBegin old links channel begin frames events new links_new =
    TakesBegin old links channel begin frames events new links_new
    ⊎ FailsByBegin old links channel begin frames events new links_new

-- the peer's End is taken, and the links of the session are given back where its own End hadn't gone
pub record TakesEnd (old : Talk) (links : Links) (channel : IncomingChannel) (end : End) (frames : List SessionFrame)
    (events : List Event) (new : Talk) (links_new : Links) : Type 0 where
  pub heard : EndHeard Link
  pub answered : EndAnswered old [] channel end (Ok heard) new frames
  pub back : SessionGivenBack links heard.ended links_new
  pub told :
      events
      ≡ end_told (is_told (is_closing old.sessions.connection.local_state) answered.stood) heard.number end.error

-- the connection refuses the peer's Begin
pub record BarsBegin (old : Talk) (channel : IncomingChannel) (begin : Begin) (e : EndpointError) (new : Talk)
    : Type 0 where
  pub refusal : ConnectionError
  pub answered : BeginAnswered gives old [] channel begin (Err (Connection refusal)) new []
  pub is : e ≡ of_connection refusal

-- the session that it names does, and there is no memory for its End
pub record BeginUntold (old : Talk) (channel : IncomingChannel) (begin : Begin) (new : Talk) : Type 0 where
  pub number : ℕ
  pub fault : SessionError
  pub refused : BeginAnswered gives old [] channel begin (Err (SessionRefuses number fault)) new []

-- there is no memory even for what is told, and nothing changes
abbrev pub IsUntold : Talk → EndpointError → Talk → Type 0
IsUntold old e new = (e ≡ Memory) × (new ≡ old)

-- the peer's Begin ends the connection by this
abbrev pub RefusesBegin : Talk → IncomingChannel → Begin → EndpointError → Talk → Type 0
RefusesBegin old channel begin e new =
    BarsBegin old channel begin e new ⊎ ((e ≡ Memory) × BeginUntold old channel begin new) ⊎ IsUntold old e new

-- the connection refuses the peer's End
pub record BarsEnd (old : Talk) (channel : IncomingChannel) (end : End) (e : EndpointError) (new : Talk) : Type 0 where
  pub refusal : ConnectionError
  pub answered : EndAnswered old [] channel end (Err refusal) new []
  pub is : e ≡ of_connection refusal

-- the peer's End ends the connection by this
abbrev pub RefusesEnd : Talk → IncomingChannel → End → EndpointError → Talk → Type 0
RefusesEnd old channel end e new = BarsEnd old channel end e new ⊎ IsUntold old e new
