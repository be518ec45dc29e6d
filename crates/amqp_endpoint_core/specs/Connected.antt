-- How an endpoint and its connection agree.
use Rattle.std.specs.Prelude.{◌≡◌, ◌≤◌, ℕ, Bool, true, false, Option, Some, None}
use Rattle.amqp_session_frames.specs.declared.frame.FrameBody.TheVariants as body
use Rattle.amqp_session_frames.specs.declared.state.ConnectionState.{ConnectionState}
use Rattle.amqp_session_frames.specs.declared.state.ConnectionState.TheVariants.{HeaderSent, HeaderExchange}
use Rattle.amqp_session_frames.specs.declared.state.ConnectionState.TheVariants.{OpenClosePipe, OpenSent, ClosePipe}
use Rattle.amqp_session_frames.specs.declared.state.ConnectionState.TheVariants.{Opened, CloseReceived, CloseSent}
use Rattle.amqp_session_frames.specs.declared.state.ConnectionState.TheVariants.{Discarding, End}
use Rattle.amqp_session_performatives.specs.declared.open.Open.{Open}
use Rattle.amqp_session_frames.specs.State.{State, fresh}
use Rattle.amqp_session_frames.specs.Steps.{frame_on}
use Rattle.amqp_endpoint_model.specs.declared.phase.Phase.{Phase}
use Rattle.amqp_endpoint_model.specs.declared.phase.Phase.TheVariants.{Unconnected, Greeting, Running, Over}
use Rattle.amqp_endpoint_model.specs.declared.settings.Settings.{Settings}
use Rattle.amqp_endpoint_model.specs.Relay.{Relations}
use Rattle.amqp_endpoint_model.specs.State.{is_running, limit_of, own_open}

-- the own Close was sent (part 2, 2.4.6)
abbrev pub sent_close : ConnectionState → Bool
sent_close OpenClosePipe = true
sent_close ClosePipe = true
sent_close CloseSent = true
sent_close Discarding = true
sent_close End = true
sent_close state = false

-- the peer's Close came (part 2, 2.4.6)
abbrev pub took_close : ConnectionState → Bool
took_close CloseReceived = true
took_close End = true
took_close state = false

-- the own Open was sent, and the peer's Close did not come: the peer's limit is known where its Open came (part 2,
-- 2.4.6)
abbrev pub Runs : Option ℕ → ConnectionState → Type 0
Runs None OpenSent = Unit {0}
Runs None ClosePipe = Unit {0}
Runs (Some limit) Opened = Unit {0}
Runs (Some limit) CloseSent = Unit {0}
Runs (Some limit) Discarding = Unit {0}
Runs limit state = ⊥

-- the own header was sent, and no Open (part 2, 2.4.6)
abbrev pub IsGreeting : ConnectionState → Type 0
IsGreeting HeaderSent = Unit {0}
IsGreeting HeaderExchange = Unit {0}
IsGreeting state = ⊥

-- where an endpoint stands, the peer's limit, and the state of its connection belong together
abbrev pub Agrees : Phase → Option ℕ → ConnectionState → Type 0
Agrees Unconnected limit state = Unit {0}
Agrees Greeting limit state = (limit ≡ None) × IsGreeting state
Agrees Running limit state = Runs limit state
Agrees Over limit state = sent_close state ≡ true

-- the sessions of an endpoint with these settings, which stands so: their connection sends the settings' Open
pub record Stands {S : Type 0} (does : Relations S) (settings : Settings) (phase : Phase) (limit : Option ℕ)
    (sessions : S)
    : Type 0 where
  pub opening : frame_on 0 (body.Open (does.connection sessions).local_open) ≡ own_open settings
  pub agrees : Agrees phase limit (does.connection sessions).local_state

-- what waits in the sessions of an endpoint that stands so is within the peer's limit, and without a connection within
-- any peer's (part 2, 2.4.1, 2.5.6)
abbrev pub WaitWithin : {S : Type 0} → Relations S → Phase → Option ℕ → S → Type 0
WaitWithin does phase limit sessions =
    does.within (limit_of limit) sessions × (phase ≡ Unconnected → does.within 512 sessions)

-- no session of an endpoint goes on that stands so that it reads no frames
abbrev pub RestIdle : {S : Type 0} → Relations S → Phase → S → Type 0
RestIdle does phase sessions = is_running phase ≡ false → does.idle sessions

-- where no session went on, none does
abbrev pub StayIdle : {S : Type 0} → Relations S → S → S → Type 0
StayIdle does old new = does.idle old → does.idle new

-- what waits in sessions stays within each limit that it was within, and those that are wider
abbrev pub StayWithin : {S : Type 0} → Relations S → S → S → Type 0
StayWithin does old new =
    (limit wider : ℕ) → limit ≤ wider → does.within limit old → does.within wider new

-- a new connection in this state, which will send the Open of these settings
pub record BeginsWith (state : ConnectionState) (settings : Settings) (connection : State) : Type 0 where
  pub opening : Open
  pub own : frame_on 0 (body.Open opening) ≡ own_open settings
  pub is : connection ≡ fresh state opening

-- the connection went on as a row of the table says, and nothing else changed (part 2, 2.4.6)
pub record MovesBy (row : ConnectionState → Option ConnectionState) (old new : State) : Type 0 where
  pub to : row old.local_state ≡ Some new.local_state
  pub is : new ≡ record old { local_state = new.local_state }
