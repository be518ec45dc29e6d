-- How sessions begin: here, or by the peer's Begin (part 2, 2.5.1).
use Rattle.std.specs.Prelude.{◌≡◌, ◌⊎◌, ℕ, List, [], ◌∷◌, ◌++◌, Bool, true, false, Option, Some, None, IsSome, Result}
use Rattle.std.specs.Prelude.{Ok, Err}
use Rattle.std.specs.Box.{with_value}
use Rattle.std.specs.Global.{Box}
use Rattle.amqp_session_types.specs.declared.channels.IncomingChannel.{IncomingChannel}
use Rattle.amqp_session_types.specs.declared.channels.OutgoingChannel.{OutgoingChannel}
use Rattle.amqp_session_types.specs.declared.refusals.ConnectionError.{ConnectionError}
use Rattle.amqp_session_types.specs.declared.refusals.ConnectionError.TheVariants.{Memory}
use Rattle.amqp_session_types.specs.declared.refusals.SessionError.TheVariants.{IllegalState}
use Rattle.amqp_session_performatives.specs.declared.begin.Begin.{Begin}
use Rattle.amqp_session_performatives.specs.declared.session_frame.SessionFrame.{SessionFrame}
use Rattle.amqp_session_frames.specs.Steps.{RefusesBegin, RefusesSession}
use Rattle.amqp_session_frames.specs.Table.{refusal_of_begin}
use Rattle.amqp_session_core.specs.Relay.{Relations}
use Rattle.amqp_session_core.specs.Table.{after_incoming_begin}
use Rattle.amqp_session_core.specs.Told.{BeginTaken}
use Rattle.amqp_endpoint_links.specs.declared.session.AskedSession.{AskedSession}
use Rattle.amqp_endpoint_links.specs.AskedSession.{asked_by}
use Rattle.amqp_endpoint_links.specs.declared.asking.AskingSession.{AskingSession}
use Rattle.amqp_endpoint_links.specs.Asked.{Asked as AskedLinks}
use Rattle.amqp_endpoint_links.specs.Beginning.{Accepted, Begun as BegunSession}
use Rattle.amqp_endpoint_tables.specs.State.{State, asked_at, asked_on, live_at}
use Rattle.amqp_endpoint_tables.specs.Steps.{Step, Accepts, Begins, Asks, TakesBegin, ChangesLive, RefusesAsk}
use Rattle.amqp_endpoint_conversation.specs.declared.beginning.AcceptRefusal.{AcceptRefusal}
use Rattle.amqp_endpoint_conversation.specs.declared.beginning.AcceptRefusal.TheVariants.{NotAsked, Unbegun}
use Rattle.amqp_endpoint_conversation.specs.declared.beginning.BeginHeard.{BeginHeard}
use Rattle.amqp_endpoint_conversation.specs.declared.beginning.BeginHeard.TheVariants.{Asked, Begun, Dropped}
use Rattle.amqp_endpoint_conversation.specs.declared.beginning.BeginRefusal.{BeginRefusal}
use Rattle.amqp_endpoint_conversation.specs.declared.beginning.BeginRefusal.TheVariants.{Connection, Session}
use Rattle.amqp_endpoint_conversation.specs.declared.conversation.Conversation.{Conversation}

-- the sessions of a conversation over links of one type
abbrev pub Sessions : Type 0 → Type 0
Sessions R = State (Box AskedSession) (Box (AskingSession R))

-- a session hears the peer's Begin: it takes it, or its state allows none
abbrev pub HearsBegin : {R A T D : Type 0} → Relations R A T D → Bool → AskingSession R → List SessionFrame
    → IncomingChannel → Begin → AskingSession R → List SessionFrame → Type 0
HearsBegin gives true old out channel begin new out_new =
    BeginTaken gives old.session out channel begin new.session out_new × (new ≡ record old { session = new.session })
HearsBegin gives false old out channel begin new out_new =
    (after_incoming_begin old.session.local_state ≡ None) × (new ≡ old) × (out_new ≡ out)

-- a session takes the peer's Begin, and this is handed out
pub record TakesItsBegin {R A T D : Type 0} (gives : Relations R A T D) (mid : Sessions R) (out : List SessionFrame)
    (number : ℕ) (channel : IncomingChannel) (begin : Begin) (new : Sessions R) (out_new : List SessionFrame)
    : Type 0 where
  pub before : Box (AskingSession R)
  pub after : Box (AskingSession R)
  pub taken : HearsBegin gives true before.value out channel begin after.value out_new
  pub stepped : Step mid (ChangesLive number before after) new

-- a session with these links that are asked for in it
abbrev pub with_links : {R : Type 0} → Box (AskingSession R) → AskedLinks → Box (AskingSession R)
with_links session links = with_value session (record session.value { asked = links })

-- why the session for which the peer may ask on a channel isn't accepted: the connection isn't open, the peer asks for
-- none, or it gets no channel
abbrev pub RefusesAccept : {R : Type 0} → Conversation R → IncomingChannel → AcceptRefusal → Type 0
RefusesAccept c channel NotAsked =
    (refusal_of_begin c.sessions.connection.local_state ≡ None) × (asked_on c.sessions channel.0 ≡ None)
RefusesAccept c channel (Unbegun e) =
    RefusesSession c.sessions.connection e
    × ((refusal_of_begin c.sessions.connection.local_state ≡ Some e) ⊎ IsSome (asked_on c.sessions channel.0))

module _ {R A T D : Type 0} (gives : Relations R A T D) where
  -- a session begins here: it gets the next number, and its Begin is to be sent
  pub record BeginsHere (old : Conversation R) (out : List SessionFrame) (number : ℕ) (new : Conversation R)
      (out_new : List SessionFrame) : Type 0 where
    pub channel : OutgoingChannel
    pub session : Box (AskingSession R)
    pub frame : SessionFrame
    pub begun : BegunSession gives channel old.first_transfer_number old.incoming_window frame session.value
    pub stepped : Step old.sessions (Begins number channel session) new.sessions
    pub rest : new ≡ record old { sessions = new.sessions }
    pub queued : out_new ≡ out ++ frame ∷ []

  -- the session that accepts the one with this number, for which the peer asks, and its Begin
  pub record Accepting (old : Conversation R) (channel : IncomingChannel) (number : ℕ) (outgoing : OutgoingChannel)
      (session : Box (AskingSession R)) (frame : SessionFrame) : Type 0 where
    pub wanted : Box AskedSession
    pub asked : asked_at old.sessions number ≡ Some wanted
    pub accepted :
        Accepted gives wanted.value outgoing channel old.first_transfer_number old.incoming_window frame session.value

  -- a session that the peer asks for is accepted: its Begin is to be sent, and the links asked for in it go over
  pub record AcceptsHere (old : Conversation R) (out : List SessionFrame) (channel : IncomingChannel) (number : ℕ)
      (new : Conversation R) (out_new : List SessionFrame) : Type 0 where
    pub asked : asked_on old.sessions channel.0 ≡ Some number
    pub incoming : IncomingChannel
    pub wanted : Box AskedSession
    pub outgoing : OutgoingChannel
    pub session : Box (AskingSession R)
    pub frame : SessionFrame
    pub mid : Sessions R
    pub accepted :
        Accepted gives wanted.value outgoing channel old.first_transfer_number old.incoming_window frame session.value
    pub stepped : Step old.sessions (Accepts number incoming wanted outgoing session) mid
    pub taken_over : Step mid (ChangesLive number session (with_links session wanted.value.links)) new.sessions
    pub rest : new ≡ record old { sessions = new.sessions }
    pub queued : out_new ≡ out ++ frame ∷ []

  -- the peer asks for a session
  pub record AsksFor (old : Conversation R) (channel : IncomingChannel) (begin : Begin) (number : ℕ)
      (new : Conversation R) : Type 0 where
    pub names_none : begin.remote_channel ≡ None
    pub asked : Box AskedSession
    pub by_begin : asked.value ≡ asked_by begin
    pub stepped : Step old.sessions (Asks number channel asked) new.sessions
    pub rest : new ≡ record old { sessions = new.sessions }

  -- the peer's channel is led to the session whose channel its Begin names
  pub record Leads (old : Conversation R) (channel : IncomingChannel) (begin : Begin) (number : ℕ) (mid : Sessions R)
      : Type 0 where
    pub names_one : IsSome begin.remote_channel
    pub stepped : Step old.sessions (TakesBegin number channel begin) mid

  -- and nothing else changes
  pub record LeadsAlone (old : Conversation R) (channel : IncomingChannel) (begin : Begin) (number : ℕ)
      (new : Conversation R) : Type 0 where
    pub led : Leads old channel begin number new.sessions
    pub rest : new ≡ record old { sessions = new.sessions }

  -- the session that the peer's Begin names takes it
  pub record BeginsThere (old : Conversation R) (out : List SessionFrame) (channel : IncomingChannel) (begin : Begin)
      (number : ℕ) (new : Conversation R) (out_new : List SessionFrame) : Type 0 where
    pub mid : Sessions R
    pub led : Leads old channel begin number mid
    pub takes : TakesItsBegin gives mid out number channel begin new.sessions out_new
    pub rest : new ≡ record old { sessions = new.sessions }

  -- it has not begun, or is ending, and drops it
  pub record BeginDropped (old : Conversation R) (channel : IncomingChannel) (begin : Begin) (new : Conversation R)
      : Type 0 where
    pub number : ℕ
    pub led : Leads old channel begin number new.sessions
    pub not_live : live_at new.sessions number ≡ None
    pub rest : new ≡ record old { sessions = new.sessions }

  -- it allows none in its state
  pub record BeginBarred (old : Conversation R) (channel : IncomingChannel) (begin : Begin) (number : ℕ)
      (new : Conversation R) : Type 0 where
    pub led : Leads old channel begin number new.sessions
    pub session : Box (AskingSession R)
    pub live : live_at new.sessions number ≡ Some session
    pub barred : after_incoming_begin session.value.session.local_state ≡ None
    pub rest : new ≡ record old { sessions = new.sessions }

  -- the connection refuses it: it asks for a session on a channel in use, or names a channel that no session has
  abbrev pub RefusedBegin : Option ℕ → Conversation R → IncomingChannel → Begin → ConnectionError → Type 0
  RefusedBegin None old channel begin e = RefusesAsk old.sessions channel.0 e
  RefusedBegin (Some named) old channel begin e = RefusesBegin old.sessions.connection begin e

  -- how the peer's Begin is answered. Where there is no memory for it, its channel may be led to its session already
  abbrev pub BeginAnswered : Conversation R → List SessionFrame → IncomingChannel → Begin
      → Result BeginHeard BeginRefusal → Conversation R → List SessionFrame → Type 0
  BeginAnswered old out channel begin (Ok (Asked number)) new out_new =
      AsksFor old channel begin number new × (out_new ≡ out)
  BeginAnswered old out channel begin (Ok (Begun number)) new out_new =
      BeginsThere old out channel begin number new out_new
  BeginAnswered old out channel begin (Ok Dropped) new out_new = BeginDropped old channel begin new × (out_new ≡ out)
  BeginAnswered old out channel begin (Err (Connection Memory)) new out_new =
      (out_new ≡ out) × ((new ≡ old) ⊎ ((number : ℕ) × LeadsAlone old channel begin number new))
  BeginAnswered old out channel begin (Err (Connection e)) new out_new =
      RefusedBegin begin.remote_channel old channel begin e × (new ≡ old) × (out_new ≡ out)
  BeginAnswered old out channel begin (Err (Session number IllegalState)) new out_new =
      BeginBarred old channel begin number new × (out_new ≡ out)
  BeginAnswered old out channel begin (Err (Session number e)) new out_new = ⊥
