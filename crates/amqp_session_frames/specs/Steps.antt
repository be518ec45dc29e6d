-- What the calls of a connection do. A refused call leaves all as before.
use Rattle.std.specs.Prelude.{◌≡◌, ◌<◌, ◌≤◌, ℕ, List, [], ◌∷◌, Option, Some, None, IsSome, is_some, Result, Ok, Err, ⊤}
use Rattle.std.specs.FinMap as map
use Rattle.std.specs.declared.alloc.AllocError.{AllocError}
use Rattle.amqp_session_types.specs.declared.channels.IncomingChannel.{IncomingChannel}
use Rattle.amqp_session_types.specs.declared.channels.OutgoingChannel.{OutgoingChannel}
use Rattle.amqp_session_types.specs.declared.error.Error.{Error}
use Rattle.amqp_session_types.specs.declared.refusals.BeginError.{BeginError}
use Rattle.amqp_session_types.specs.declared.refusals.BeginError.TheVariants.{LocalChannelMaxReached}
use Rattle.amqp_session_types.specs.declared.refusals.BeginError.TheVariants.{ConnectionNotOpened, ConnectionStopped}
use Rattle.amqp_session_types.specs.declared.refusals.BeginError.TheVariants.{Memory as NoMemoryForSession}
use Rattle.amqp_session_types.specs.declared.refusals.ConnectionError.{ConnectionError}
use Rattle.amqp_session_types.specs.declared.refusals.ConnectionError.TheVariants.{IllegalState, NotImplemented}
use Rattle.amqp_session_types.specs.declared.refusals.ConnectionError.TheVariants.{NotFound, Memory}
use Rattle.amqp_session_types.specs.declared.refusals.ConnectionStopReason.{ConnectionStopReason}
use Rattle.amqp_session_types.specs.declared.refusals.OpenError.{OpenError}
use Rattle.amqp_session_types.specs.declared.refusals.OpenError.TheVariants.{IllegalState as IllegalStateOfOpen}
use Rattle.amqp_session_types.specs.declared.refusals.OpenError.TheVariants.{Memory as NoMemoryForOpen}
use Rattle.amqp_session_performatives.specs.declared.open.Open.{Open}
use Rattle.amqp_session_performatives.specs.declared.begin.Begin.{Begin}
use Rattle.amqp_session_performatives.specs.declared.end.End.{End}
use Rattle.amqp_session_performatives.specs.declared.close.Close.{Close}
use Rattle.amqp_session_frames.specs.declared.frame.Frame.{Frame}
use Rattle.amqp_session_frames.specs.declared.frame.FrameBody.{FrameBody}
use Rattle.amqp_session_frames.specs.declared.frame.FrameBody.TheVariants as body
use Rattle.amqp_session_frames.specs.declared.state.ConnectionState.{ConnectionState}
use Rattle.amqp_session_frames.specs.State.{State, channel_limit}
use Rattle.amqp_session_frames.specs.Table.{after_send_header, after_incoming_header, after_send_open}
use Rattle.amqp_session_frames.specs.Table.{after_incoming_open, after_send_close, after_incoming_close}
use Rattle.amqp_session_frames.specs.Table.{refusal_of_begin}

-- a call with what it was given, and what it answered
pub data Act : Type 0 where
  SetsStopReason : (reason : ConnectionStopReason) → Act
  SendsHeader : (answer : Result ⊤ ConnectionError) → Act
  TakesHeader : (answer : Result ⊤ ConnectionError) → Act
  SendsOpen : (answer : Result Frame OpenError) → Act
  TakesOpen : (channel : IncomingChannel) (opening : Open) (answer : Result ⊤ OpenError) → Act
  SendsClose : (error : Option Error) (answer : Result Frame ConnectionError) → Act
  TakesClose : (channel : IncomingChannel) (closing : Close) (answer : Result ⊤ ConnectionError) → Act
  SendsBegin : (channel : OutgoingChannel) (beginning : Begin) (answer : Frame) → Act
  SendsEnd : (channel : OutgoingChannel) (ending : End) (answer : Frame) → Act
  AllocatesSession : (session : ℕ) (answer : Result OutgoingChannel BeginError) → Act
  DeallocatesSession : (channel : OutgoingChannel) → Act
  TakesBegin : (channel : IncomingChannel) (beginning : Begin) (answer : Result ℕ ConnectionError) → Act
  AcceptsRoute : (channel : IncomingChannel) (session : ℕ) (answer : Result ⊤ AllocError) → Act
  TakesEnd : (channel : IncomingChannel) (ending : End) (answer : Result ℕ ConnectionError) → Act
  FindsSession : (channel : IncomingChannel) (answer : Option ℕ) → Act

-- a frame of this body, on this channel
abbrev pub frame_on : ℕ → FrameBody → Frame
frame_on channel said = record { channel = channel; body = said }

-- the first reason stays
abbrev pub first_reason : Option ConnectionStopReason → ConnectionStopReason → Option ConnectionStopReason
first_reason None reason = Some reason
first_reason (Some earlier) reason = Some earlier

abbrev pub SetStopReason : State → ConnectionStopReason → State → Type 0
SetStopReason old reason new = new ≡ record old { stop_reason = first_reason old.stop_reason reason }

-- the own protocol header is sent
abbrev pub SendHeader : State → Result ⊤ ConnectionError → State → Type 0
SendHeader old (Err e) new = (e ≡ IllegalState) × (after_send_header old.local_state ≡ None) × (new ≡ old)
SendHeader old (Ok _) new =
    (after_send_header old.local_state ≡ Some new.local_state) × (new ≡ record old { local_state = new.local_state })

-- the peer's protocol header is taken
abbrev pub TakeHeader : State → Result ⊤ ConnectionError → State → Type 0
TakeHeader old (Err e) new = (e ≡ IllegalState) × (after_incoming_header old.local_state ≡ None) × (new ≡ old)
TakeHeader old (Ok _) new =
    (after_incoming_header old.local_state ≡ Some new.local_state)
    × (new ≡ record old { local_state = new.local_state })

-- why an Open is refused, where the table has this state behind it
abbrev pub RefusesOpen : Option ConnectionState → OpenError → Type 0
RefusesOpen next IllegalStateOfOpen = next ≡ None
RefusesOpen next NoMemoryForOpen = IsSome next
RefusesOpen next e = ⊥

-- the own Open is handed out, on channel 0
abbrev pub SendOpen : State → Result Frame OpenError → State → Type 0
SendOpen old (Err e) new = RefusesOpen (after_send_open old.local_state) e × (new ≡ old)
SendOpen old (Ok frame) new =
    (frame ≡ frame_on 0 (body.Open old.local_open)) × (after_send_open old.local_state ≡ Some new.local_state)
    × (new ≡ record old { local_state = new.local_state })

-- the peer's Open is taken: its channel-max is kept
abbrev pub TakeOpen : State → Open → Result ⊤ OpenError → State → Type 0
TakeOpen old opening (Err e) new = (e ≡ IllegalStateOfOpen) × (after_incoming_open old.local_state ≡ None) × (new ≡ old)
TakeOpen old opening (Ok _) new =
    (after_incoming_open old.local_state ≡ Some new.local_state)
    × (new ≡ record old { local_state = new.local_state; remote_channel_max = Some opening.channel_max })

-- a Close with this error is handed out, on channel 0
abbrev pub SendClose : State → Option Error → Result Frame ConnectionError → State → Type 0
SendClose old error (Err e) new =
    (e ≡ IllegalState) × (after_send_close (is_some error) old.local_state ≡ None) × (new ≡ old)
SendClose old error (Ok frame) new =
    (frame ≡ frame_on 0 (body.Close (record { error = error })))
    × (after_send_close (is_some error) old.local_state ≡ Some new.local_state)
    × (new ≡ record old { local_state = new.local_state })

-- the peer's Close is taken
abbrev pub TakeClose : State → Result ⊤ ConnectionError → State → Type 0
TakeClose old (Err e) new = (e ≡ IllegalState) × (after_incoming_close old.local_state ≡ None) × (new ≡ old)
TakeClose old (Ok _) new =
    (after_incoming_close old.local_state ≡ Some new.local_state) × (new ≡ record old { local_state = new.local_state })

-- why no channel is given to a session: the state, then the channel that is offered, then want of memory
abbrev pub RefusesSession : State → BeginError → Type 0
RefusesSession old ConnectionNotOpened = refusal_of_begin old.local_state ≡ Some ConnectionNotOpened
RefusesSession old ConnectionStopped = refusal_of_begin old.local_state ≡ Some ConnectionStopped
RefusesSession old LocalChannelMaxReached =
    (refusal_of_begin old.local_state ≡ None) × (channel_limit old < old.offered)
RefusesSession old NoMemoryForSession = (refusal_of_begin old.local_state ≡ None) × (old.offered ≤ channel_limit old)
RefusesSession old e = ⊥

-- why no channel is offered to a session: the state, then the channel itself (part 2, 2.7.1)
abbrev pub RefusesChannel : State → BeginError → Type 0
RefusesChannel old NoMemoryForSession = ⊥
RefusesChannel old e = RefusesSession old e

-- this channel, which no live session has, is offered to the next one
abbrev pub Offers : State → OutgoingChannel → Type 0
Offers old channel =
    (refusal_of_begin old.local_state ≡ None) × (old.offered ≤ channel_limit old) × (channel.0 ≡ old.offered)
    × (map.get old.live old.offered ≡ None)

-- the offered channel, which no session has, is given to a session. Which one is offered next stays open
abbrev pub AllocateSession : State → ℕ → Result OutgoingChannel BeginError → State → Type 0
AllocateSession old session (Err e) new = RefusesSession old e × (new ≡ old)
AllocateSession old session (Ok channel) new =
    (refusal_of_begin old.local_state ≡ None) × (old.offered ≤ channel_limit old) × (channel.0 ≡ old.offered)
    × (map.get old.live old.offered ≡ None)
    × (new ≡ record old { live = map.insert old.live old.offered session; offered = new.offered })

-- a channel is taken back from its session, if it has one. Which channel is offered next stays open
abbrev pub DeallocateSession : State → ℕ → Option ℕ → State → Type 0
DeallocateSession old channel None new = new ≡ old
DeallocateSession old channel (Some session) new =
    new ≡ record old { live = map.remove old.live channel; offered = new.offered }

-- the live session whose outgoing channel a Begin of the peer names
abbrev pub named_session : State → Option ℕ → Option ℕ
named_session s None = None
named_session s (Some channel) = map.get s.live channel

-- why the peer's Begin is refused: it names no channel, or that of no live session, or there is no memory for its route
abbrev pub RefusesBegin : State → Begin → ConnectionError → Type 0
RefusesBegin old beginning NotImplemented = beginning.remote_channel ≡ None
RefusesBegin old beginning NotFound =
    IsSome beginning.remote_channel × (named_session old beginning.remote_channel ≡ None)
RefusesBegin old beginning Memory = IsSome (named_session old beginning.remote_channel)
RefusesBegin old beginning e = ⊥

-- the peer's Begin is taken: its channel is routed to the session that it names, in place of an older route
abbrev pub TakeBegin : State → ℕ → Begin → Result ℕ ConnectionError → State → Type 0
TakeBegin old channel beginning (Err e) new = RefusesBegin old beginning e × (new ≡ old)
TakeBegin old channel beginning (Ok session) new =
    (named_session old beginning.remote_channel ≡ Some session)
    × (new ≡ record old { routes = map.insert old.routes channel session })

-- a channel of the peer is routed to a session, in place of an older route
abbrev pub AcceptRoute : State → ℕ → ℕ → Result ⊤ AllocError → State → Type 0
AcceptRoute old channel session (Err _) new = new ≡ old
AcceptRoute old channel session (Ok _) new = new ≡ record old { routes = map.insert old.routes channel session }

-- the peer's End is taken: the route of its channel goes
abbrev pub TakeEnd : State → ℕ → Result ℕ ConnectionError → State → Type 0
TakeEnd old channel (Err e) new = (e ≡ NotFound) × (map.get old.routes channel ≡ None) × (new ≡ old)
TakeEnd old channel (Ok session) new =
    (map.get old.routes channel ≡ Some session) × (new ≡ record old { routes = map.remove old.routes channel })

-- the states around a call
abbrev pub Step : State → Act → State → Type 0
Step old (SetsStopReason reason) new = SetStopReason old reason new
Step old (SendsHeader answer) new = SendHeader old answer new
Step old (TakesHeader answer) new = TakeHeader old answer new
Step old (SendsOpen answer) new = SendOpen old answer new
Step old (TakesOpen channel opening answer) new = TakeOpen old opening answer new
Step old (SendsClose error answer) new = SendClose old error answer new
Step old (TakesClose channel closing answer) new = TakeClose old answer new
Step old (SendsBegin channel beginning frame) new = (frame ≡ frame_on channel.0 (body.Begin beginning)) × (new ≡ old)
Step old (SendsEnd channel ending frame) new = (frame ≡ frame_on channel.0 (body.End ending)) × (new ≡ old)
Step old (AllocatesSession session answer) new = AllocateSession old session answer new
Step old (DeallocatesSession channel) new = DeallocateSession old channel.0 (map.get old.live channel.0) new
Step old (TakesBegin channel beginning answer) new = TakeBegin old channel.0 beginning answer new
Step old (AcceptsRoute channel session answer) new = AcceptRoute old channel.0 session answer new
Step old (TakesEnd channel ending answer) new = TakeEnd old channel.0 answer new
Step old (FindsSession channel answer) new = (answer ≡ map.get old.routes channel.0) × (new ≡ old)

-- the states around a list of calls
abbrev pub History : State → List Act → State → Type 0
History start [] end = end ≡ start
History start (step ∷ steps) end = (mid : State) × Step start step mid × History mid steps end
