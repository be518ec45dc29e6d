-- How sessions begin and end here, by a call or by their fault (part 2, 2.5.1, 2.5.2).
use Rattle.std.specs.Prelude.{◌≡◌, ℕ, List, [], ◌∷◌, Some, None, IsSome}
use Rattle.amqp_session_types.specs.declared.channels.IncomingChannel.{IncomingChannel}
use Rattle.amqp_session_types.specs.declared.refusals.BeginError.{BeginError}
use Rattle.amqp_session_types.specs.declared.refusals.BeginError.TheVariants as begin
use Rattle.amqp_session_types.specs.declared.refusals.SessionError.{SessionError}
use Rattle.amqp_session_performatives.specs.declared.session_frame.SessionFrame.{SessionFrame}
use Rattle.amqp_session_frames.specs.Steps.{RefusesSession}
use Rattle.amqp_endpoint_tables.specs.State.{live_at, place_at}
use Rattle.amqp_endpoint_conversation.specs.declared.beginning.AcceptRefusal.{AcceptRefusal}
use Rattle.amqp_endpoint_conversation.specs.declared.beginning.AcceptRefusal.TheVariants as accept
use Rattle.amqp_endpoint_conversation.specs.Beginning.{AcceptsHere, BeginsHere, RefusesAccept}
use Rattle.amqp_endpoint_conversation.specs.Ending.{EndsHere, IsMapped}
use Rattle.amqp_endpoint_conversation.specs.Faults.{fault_error}
use Rattle.amqp_endpoint_model.specs.declared.error.EndpointError.{EndpointError}
use Rattle.amqp_endpoint_model.specs.declared.error.EndpointError.TheVariants.{IllegalState, LocalChannelMaxReached}
use Rattle.amqp_endpoint_model.specs.declared.error.EndpointError.TheVariants.{Memory, NotAsked, NotConnected}
use Rattle.amqp_endpoint_model.specs.declared.error.EndpointError.TheVariants.{Session as SessionFault, UnknownSession}
use Rattle.amqp_endpoint_model.specs.declared.event.Event.{Event}
use Rattle.amqp_endpoint_model.specs.declared.event.Event.TheVariants as event
use Rattle.amqp_endpoint_attached.specs.Linked.{gives}
use Rattle.amqp_endpoint_linking.specs.Linking.{Links, Session, Talk, links_of}
use Rattle.amqp_endpoint_linking.specs.GivingBack.{AllGivenBack}

-- a session begins here
abbrev pub Begins : Talk → ℕ → List SessionFrame → Talk → Type 0
Begins old number frames new = BeginsHere gives old [] number new frames

-- the one begins that the peer asks for on a channel
abbrev pub Accepts : Talk → IncomingChannel → ℕ → List SessionFrame → Talk → Type 0
Accepts old channel number frames new = AcceptsHere gives old [] channel number new frames

-- a session that has begun at both ends, and ended at neither, ends here, and its links are given back (part 2, 2.5.2)
pub record EndsOwn (old : Talk) (links : Links) (number : ℕ) (frames : List SessionFrame) (new : Talk)
    (links_new : Links) : Type 0 where
  pub mapped : IsMapped old number
  pub session : Session
  pub ends : EndsHere old [] number None session new frames
  pub back : AllGivenBack links (links_of session) links_new

-- what is told of a session that ends by its fault
abbrev pub fault_told : ℕ → SessionError → List Event
fault_told number fault =
    event.Refused (record { session = number; link = None; error = SessionFault fault }) ∷ []

-- a session ends by its fault: its End says the fault's condition (part 2, 2.8.15, 2.8.17), its links are given back,
-- and this is told
pub record Fails (old : Talk) (links : Links) (number : ℕ) (fault : SessionError) (frames : List SessionFrame)
    (events : List Event) (new : Talk) (links_new : Links) : Type 0 where
  pub session : Session
  pub ends : EndsHere old [] number (Some (fault_error fault)) session new frames
  pub back : AllGivenBack links (links_of session) links_new
  pub told : events ≡ fault_told number fault

-- the endpoint's name for why no session begins: its connection isn't open, or a Close was sent or came; no channel is
-- left (part 2, 2.7.1); or there is no memory
abbrev pub of_begin : BeginError → EndpointError
of_begin begin.ConnectionNotOpened = NotConnected
of_begin begin.ConnectionStopped = NotConnected
of_begin begin.LocalChannelMaxReached = LocalChannelMaxReached
of_begin begin.Memory = Memory
of_begin e = IllegalState

abbrev pub of_accept : AcceptRefusal → EndpointError
of_accept accept.NotAsked = NotAsked
of_accept (accept.Unbegun e) = of_begin e

pub record BarsBeginning (old : Talk) (e : EndpointError) : Type 0 where
  pub refusal : BeginError
  pub refuses : RefusesSession old.sessions.connection refusal
  pub is : e ≡ of_begin refusal

-- the connection isn't open, then no session is asked for on the channel, and then as a session that begins
pub record BarsAccepting (old : Talk) (channel : IncomingChannel) (e : EndpointError) : Type 0 where
  pub refusal : AcceptRefusal
  pub refuses : RefusesAccept old channel refusal
  pub is : e ≡ of_accept refusal

-- no session has the number, then it isn't one that has begun at both ends and ended at neither
abbrev pub BarsEnding : Talk → ℕ → EndpointError → Type 0
BarsEnding old number UnknownSession = place_at old.sessions number ≡ None
BarsEnding old number IllegalState = IsSome (place_at old.sessions number) × (IsMapped old number → ⊥)
BarsEnding old number Memory = IsMapped old number
BarsEnding old number e = ⊥

-- no session with the number has begun that its own side didn't end
abbrev pub BarsFailing : Talk → ℕ → EndpointError → Type 0
BarsFailing old number IllegalState = live_at old.sessions number ≡ None
BarsFailing old number Memory = IsSome (live_at old.sessions number)
BarsFailing old number e = ⊥
