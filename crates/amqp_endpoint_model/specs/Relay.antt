-- What an endpoint's sessions are to its connection (part 2, 2.5).
use Rattle.std.specs.Prelude.{◌≡◌, ◌≢◌, ℕ, List, ◌++◌, true, All}
use Rattle.amqp_session_types.specs.declared.refusals.ConnectionError.TheVariants.{NotImplemented, NotFound, NotAllowed}
use Rattle.amqp_session_performatives.specs.declared.session_frame.SessionFrame.{SessionFrame}
use Rattle.amqp_session_frames.specs.declared.frame.FrameBody.{FrameBody}
use Rattle.amqp_session_frames.specs.declared.frame.FrameBody.TheVariants.{Begin, Attach, Flow, Transfer, Disposition}
use Rattle.amqp_session_frames.specs.declared.frame.FrameBody.TheVariants.{Detach, End}
use Rattle.amqp_session_frames.specs.declared.state.ConnectionState.TheVariants.{Start}
use Rattle.amqp_session_frames.specs.State as channels
use Rattle.amqp_endpoint_model.specs.declared.call.Call.{Call}
use Rattle.amqp_endpoint_model.specs.declared.error.EndpointError.{EndpointError}
use Rattle.amqp_endpoint_model.specs.declared.error.EndpointError.TheVariants.{Memory, NumbersUsedUp, Connection}
use Rattle.amqp_endpoint_model.specs.declared.error.EndpointError.TheVariants.{Session}
use Rattle.amqp_endpoint_model.specs.declared.event.Event.{Event}
use Rattle.amqp_endpoint_model.specs.declared.settings.Settings.{Settings}
use Rattle.amqp_endpoint_model.specs.Said.{Said}
use Rattle.amqp_endpoint_model.specs.State.{fits, frame_of, own_open}
use Rattle.amqp_session_frames.specs.declared.frame.FrameBody.TheVariants as body
use Rattle.amqp_session_performatives.specs.declared.open.Open.{Open}

-- what sessions do: in each of these stand first the sessions before, and last those behind
pub record Relations (S : Type 0) : Type 1 where
  -- none yet, on a connection; the number of the first transfer of each, and its incoming-window (part 2, 2.5.6)
  pub fresh : channels.State → ℕ → ℕ → S
  -- the connection that gives them their channels
  pub connection : S → channels.State
  -- the same sessions, where their connection alone went on
  pub moved : S → channels.State → S
  -- a frame of the peer on a channel is taken, where written frames have a limit: these frames are to be sent then, and
  -- these events are told
  pub takes : S → ℕ → ℕ → FrameBody → List SessionFrame → List Event → S → Type 0
  -- a frame is refused, and ends the connection
  pub refuses : S → ℕ → ℕ → FrameBody → EndpointError → S → Type 0
  -- a call of the owner is done, where written frames have a limit: it answers so, and these frames are to be sent then
  pub calls : S → ℕ → Call → Said → List SessionFrame → S → Type 0
  -- it is refused so, and changes nothing
  pub bars : S → ℕ → Call → EndpointError → Type 0
  -- each frame that waits in them for the peer's window fits this limit (part 2, 2.5.6)
  pub within : ℕ → S → Type 0
  -- no session goes on here: none has begun that its own side didn't end
  pub idle : S → Type 0
  -- the own Close is sent: no session goes on here
  pub closes : S → S → Type 0
  -- the connection is over, and with it the sessions
  pub finishes : S → S → Type 0

-- a performative of a session (part 2, 2.7)
abbrev pub IsOfSession : FrameBody → Type 0
IsOfSession (Begin begin) = Unit {0}
IsOfSession (Attach attach) = Unit {0}
IsOfSession (Flow flow) = Unit {0}
IsOfSession (Transfer transfer payload) = Unit {0}
IsOfSession (Disposition disposition) = Unit {0}
IsOfSession (Detach detach) = Unit {0}
IsOfSession (End end) = Unit {0}
IsOfSession body = ⊥

-- what a frame of a session may end the connection by
abbrev pub IsSessionFault : EndpointError → Type 0
IsSessionFault Memory = Unit {0}
IsSessionFault NumbersUsedUp = Unit {0}
IsSessionFault (Connection NotImplemented) = Unit {0}
IsSessionFault (Connection NotFound) = Unit {0}
IsSessionFault (Connection NotAllowed) = Unit {0}
IsSessionFault (Session e) = Unit {0}
IsSessionFault e = ⊥

module _ {S : Type 0} (does : Relations S) where
  -- no sessions yet, on a connection that will send the Open of these settings
  pub record IsNew (settings : Settings) (sessions : S) : Type 0 where
    pub opening : Open
    pub own : record { channel = 0; body = body.Open opening } ≡ own_open settings
    pub is :
        sessions
        ≡ does.fresh (channels.fresh Start opening) settings.first_transfer_number settings.incoming_window

  -- a frame is taken: what they send then is behind what was to be sent, and fits the limit, and what they tell is
  -- behind what was told
  pub record Taken (old : S) (limit channel : ℕ) (said : FrameBody) (out : List SessionFrame) (told : List Event)
      (new : S)
      (out_new : List SessionFrame) (told_new : List Event) : Type 0 where
    pub frames : List SessionFrame
    pub events : List Event
    pub takes : does.takes old limit channel said frames events new
    pub fit : All (λ f. fits limit (frame_of f) ≡ true) frames
    pub queued : out_new ≡ out ++ frames
    pub are_told : told_new ≡ told ++ events

  -- a call is done: what they send then is behind what was to be sent, and fits the limit
  pub record Called (old : S) (limit : ℕ) (call : Call) (answer : Said) (out : List SessionFrame) (new : S)
      (out_new : List SessionFrame) : Type 0 where
    pub frames : List SessionFrame
    pub calls : does.calls old limit call answer frames new
    pub fit : All (λ f. fits limit (frame_of f) ≡ true) frames
    pub queued : out_new ≡ out ++ frames

  -- a frame is refused: nothing is sent, and nothing told
  pub record Refused (old : S) (limit channel : ℕ) (said : FrameBody) (e : EndpointError) (new : S) : Type 0 where
    pub ends : IsSessionFault e
    pub refuses : does.refuses old limit channel said e new

-- a connection keeps its state and its own Open
pub record StandsStill (old new : channels.State) : Type 0 where
  pub state : new.local_state ≡ old.local_state
  pub opening : new.local_open ≡ old.local_open

-- the sessions before decide what a frame and a call do, and which sessions stand behind each step: want of memory
-- aside
pub record Decides {S : Type 0} (does : Relations S) : Type 0 where
  pub taken : (old new other : S) (limit channel : ℕ) (body : FrameBody) (frames more : List SessionFrame)
      (events told : List Event) → does.takes old limit channel body frames events new
      → does.takes old limit channel body more told other → (frames ≡ more) × (events ≡ told) × (new ≡ other)
  pub refused : (old new other : S) (limit channel : ℕ) (body : FrameBody) (e why : EndpointError)
      → does.refuses old limit channel body e new → does.refuses old limit channel body why other
      → e ≢ Memory → why ≢ Memory → (e ≡ why) × (new ≡ other)
  pub apart : (old new other : S) (limit channel : ℕ) (body : FrameBody) (frames : List SessionFrame)
      (events : List Event) (e : EndpointError) → does.takes old limit channel body frames events new
      → does.refuses old limit channel body e other → e ≢ Memory → ⊥
  pub called : (old new other : S) (limit : ℕ) (call : Call) (a b : Said) (frames more : List SessionFrame)
      → does.calls old limit call a frames new → does.calls old limit call b more other
      → (a ≡ b) × (frames ≡ more) × (new ≡ other)
  pub barred : (old : S) (limit : ℕ) (call : Call) (e why : EndpointError) → does.bars old limit call e
      → does.bars old limit call why → e ≢ Memory → why ≢ Memory → e ≡ why
  pub uncalled : (old new : S) (limit : ℕ) (call : Call) (a : Said) (frames : List SessionFrame) (e : EndpointError)
      → does.calls old limit call a frames new → does.bars old limit call e → e ≢ Memory → ⊥
  pub closed : (old new other : S) → does.closes old new → does.closes old other → new ≡ other
  pub finished : (old new other : S) → does.finishes old new → does.finishes old other → new ≡ other
