-- How an endpoint reads its input, frame by frame.
use Rattle.std.specs.Prelude.{◌≡◌, ◌≢◌, ℕ, ◌≤◌, ◌<◌, ◌⊎◌, Bool, true, false, List, [], ◌++◌, length, take, drop, Option}
use Rattle.std.specs.Prelude.{Some, None, if◌then◌else◌, nat_lt}
use Rattle.amqp_session_frames.specs.declared.frame.Frame.{Frame}
use Rattle.amqp_session_frames.specs.declared.frame.FrameBody.{FrameBody}
use Rattle.amqp_session_frames.specs.Text.{FrameText}
use Rattle.amqp_session_frames.specs.Cutting.{said_size, ReadsAs}
use Rattle.amqp_endpoint_model.specs.declared.error.EndpointError.{EndpointError}
use Rattle.amqp_endpoint_model.specs.declared.error.EndpointError.TheVariants.{Memory, NumbersUsedUp}
use Rattle.amqp_endpoint_model.specs.declared.error.EndpointError.TheVariants.{ProtocolHeaderMismatch, SizeUnder8}
use Rattle.amqp_endpoint_model.specs.declared.error.EndpointError.TheVariants.{SizeOverLimit, PeerLimitUnder512}
use Rattle.amqp_endpoint_model.specs.declared.error.EndpointError.TheVariants.{Frame as FrameFault, Connection, Session}
use Rattle.amqp_endpoint_model.specs.declared.event.Event.{Event}
use Rattle.amqp_endpoint_model.specs.declared.phase.Phase.TheVariants.{Running, Over}
use Rattle.amqp_endpoint_model.specs.State.{State, is_running, protocol_header}
use Rattle.amqp_endpoint_model.specs.Step.{Admits, AfterFault, Breaks, TakesBody, TakesAll, Front, FrontUnread, NoFrame}
use Rattle.amqp_endpoint_model.specs.Step.{RefusesBody, Waits, at_state, opened, condition_of, framing_error}
use Rattle.amqp_endpoint_model.specs.Step.{decode_error, not_allowed, not_found}
use Rattle.amqp_endpoint_model.specs.Relay.{Relations}
use Rattle.amqp_session_frames.specs.declared.state.ConnectionState.TheVariants.{HeaderExchange}
use Rattle.amqp_endpoint_core.specs.declared.condition.Condition.{Condition}
use Rattle.amqp_endpoint_core.specs.declared.condition.Condition.TheVariants.{FramingError, DecodeError, NotAllowed}
use Rattle.amqp_endpoint_core.specs.declared.condition.Condition.TheVariants.{NotFound}

module _ {S : Type 0} (does : Relations S) where
  -- the peer's header was whole and right, and the own Open is queued; or it isn't whole yet
  abbrev pub HeaderTaken : Bool → State S → State S → Type 0
  HeaderTaken true old new =
      (take 8 old.rest ≡ protocol_header) × (new ≡ record (opened does old) { rest = drop 8 old.rest })
  HeaderTaken false old new = (length old.rest < 8) × (new ≡ old)

  -- there was no memory, before the peer's header was taken or behind it
  abbrev pub GreetedOff : State S → State S → Type 0
  GreetedOff old new = (new ≡ old) ⊎ (new ≡ record old { sessions = at_state does old.sessions HeaderExchange })

  abbrev pub HeaderRefused : State S → EndpointError → State S → Type 0
  HeaderRefused old ProtocolHeaderMismatch new =
      (8 ≤ length old.rest) × (take 8 old.rest ≢ protocol_header) × (new ≡ old)
  HeaderRefused old Memory new = GreetedOff old new
  HeaderRefused old e new = ⊥

  -- these bytes are taken, or there is no memory for them, and the header is refused
  abbrev pub HeaderLeft : State S → List ℕ → EndpointError → State S → Type 0
  HeaderLeft old bytes e new =
      ((e ≡ Memory) × (new ≡ old)) ⊎ HeaderRefused (record old { rest = old.rest ++ bytes }) e new

-- events are told of which this is so, behind those that were told before
pub record Tells (IsSo : List Event → Type 0) (before behind : List Event) : Type 0 where
  pub events : List Event
  pub is_so : IsSo events
  pub told : behind ≡ before ++ events

-- why a whole piece is not read as a frame
abbrev pub NotTaken : List ℕ → EndpointError → Type 0
NotTaken piece Memory = Unit {0}
NotTaken piece (FrameFault e) = NoFrame e piece
NotTaken piece e = ⊥

-- the size that stands in front may not be
abbrev pub SizeRefused : ℕ → List ℕ → EndpointError → Type 0
SizeRefused limit left SizeUnder8 = FrontUnread limit left SizeUnder8
SizeRefused limit left SizeOverLimit = FrontUnread limit left SizeOverLimit
SizeRefused limit left e = ⊥

-- a whole piece of so many bytes stands in front
pub record PieceOf (limit : ℕ) (left : List ℕ) (size : ℕ) : Type 0 where
  pub least : 8 ≤ size
  pub said : said_size left ≡ size
  pub short : size ≤ limit
  pub there : size ≤ length left

module _ {S : Type 0} (does : Relations S) where
  -- the errors by which a frame that is read is refused
  abbrev pub MayEnd : EndpointError → Type 0
  MayEnd PeerLimitUnder512 = Unit {0}
  MayEnd (Connection e) = Unit {0}
  MayEnd (Session e) = Unit {0}
  MayEnd NumbersUsedUp = Unit {0}
  MayEnd e = ⊥

  -- a frame that is read is refused for what it says, or for want of memory
  abbrev pub RefusedFor : State S → ℕ → FrameBody → EndpointError → S → Type 0
  RefusedFor s channel body Memory sessions =
      (sessions ≡ s.sessions) ⊎ RefusesBody does s Memory channel body sessions
  RefusedFor s channel body e sessions = MayEnd e × RefusesBody does s e channel body sessions

  abbrev pub BodyRefused : State S → ℕ → FrameBody → EndpointError → State S → Type 0
  BodyRefused s channel body e new =
      RefusedFor s channel body e new.sessions × (new ≡ record s { sessions = new.sessions })

  -- what a frame says is taken, and its events are behind those before
  pub record BodyTaken (old : State S) (channel : ℕ) (body : FrameBody) (before behind : List Event) (new : State S)
      : Type 0 where
    pub events : List Event
    pub told : behind ≡ before ++ events
    pub takes : TakesBody does old channel body events new

-- the frame in front is split off
pub record FrameSplit {S : Type 0} (old : State S) (frame : Frame) (new : State S) : Type 0 where
  pub piece : List ℕ
  pub front : Front old.settings.max_frame_size old.rest piece
  pub text : FrameText piece frame
  pub after : new ≡ record old { rest = front.more }

module _ {S : Type 0} (does : Relations S) where
  -- the frame in front is taken, with these events; what stands behind it is still to be read, unless it was the peer's
  -- Close
  pub record TakesFront (old : State S) (events : List Event) (new : State S) : Type 0 where
    pub piece : List ℕ
    pub frame : Frame
    pub mid : State S
    pub front : Front old.settings.max_frame_size old.rest piece
    pub text : FrameText piece frame
    pub takes : TakesBody does (record old { rest = [] }) frame.channel frame.body events mid
    pub after : new ≡ (if is_running mid.phase then record mid { rest = front.more } else mid)

  -- the frame in front is taken, or isn't whole yet
  abbrev pub FrontTaken : Bool → State S → List Event → List Event → State S → Type 0
  FrontTaken true old before behind new =
      (events : List Event) × (behind ≡ before ++ events) × TakesFront old events new
  FrontTaken false old before behind new =
      Waits old.settings.max_frame_size old.rest × (behind ≡ before) × (new ≡ old)

-- the peer's first Open has a limit of under 512 bytes (part 2, 2.7.1)
abbrev pub says_too_little : Option ℕ → ℕ → Bool
says_too_little None most = nat_lt most 512
says_too_little (Some limit) most = false

-- the names of conditions (part 2, 2.8.15, 2.8.16)
abbrev pub condition_text : Condition → List ℕ
condition_text FramingError = framing_error
condition_text DecodeError = decode_error
condition_text NotAllowed = not_allowed
condition_text NotFound = not_found

abbrev pub told_by : Option Condition → Option (List ℕ)
told_by (Some c) = Some (condition_text c)
told_by None = None

module _ {S : Type 0} (does : Relations S) where
  -- a fault ends the connection, or want of memory for the Close that tells of it does
  abbrev pub EndsBy : EndpointError → EndpointError → State S → State S → Type 0
  EndsBy fault told old new =
      ((told ≡ fault) × AfterFault does (condition_of fault) old new) ⊎ ((told ≡ Memory) × Breaks does old new)

  -- what a feed came to so far: the frames that it took, and the state and the bytes behind them
  pub record SoFar (start : State S) (events : List Event) (now : State S) : Type 0 where
    pub frames : List Frame
    pub left : List ℕ
    pub mid : State S
    pub read : ReadsAs (Admits start.settings.max_frame_size) start.rest frames left
    pub taken : TakesAll does (record start { rest = [] }) frames events mid
    pub is : now ≡ (if is_running mid.phase then record mid { rest = left } else mid)
    pub settings : mid.settings ≡ start.settings
    pub dropped : mid.rest ≡ []
    pub phase : (mid.phase ≡ Running) ⊎ (mid.phase ≡ Over)

  -- the same, with what it told behind the events before
  abbrev pub SoFarBehind : State S → List Event → List Event → State S → Type 0
  SoFarBehind start before behind now = Tells (λ events. SoFar start events now) before behind
