-- What each call does and answers.
use Rattle.std.specs.Prelude.{◌≡◌, ◌≢◌, ℕ, ◌≤◌, ◌<◌, ◌^◌, ◌==◌, ◌&&◌, ◌||◌, ◌⊎◌, Bool, true, false, not, List, [], ◌∷◌}
use Rattle.std.specs.Prelude.{◌++◌, length, map, take, drop, Option, Some, None, is_none, IsSome, if◌then◌else◌, nat_lt}
use Rattle.std.specs.Prelude.{nat_le, codes, All}
use Rattle.amqp_session_types.specs.declared.refusals.TryCloseError.{TryCloseError}
use Rattle.amqp_session_types.specs.declared.refusals.TryCloseError.TheVariants.{RemoteCloseNotReceived, AlreadyClosed}
use Rattle.amqp_session_types.specs.declared.refusals.ConnectionError.{ConnectionError}
use Rattle.amqp_session_types.specs.declared.refusals.ConnectionError.TheVariants.{IllegalState as OutOfOrder, NotFound}
use Rattle.amqp_session_frames.specs.declared.frame.Frame.{Frame}
use Rattle.amqp_session_frames.specs.declared.frame.FrameBody.{FrameBody}
use Rattle.amqp_session_frames.specs.declared.frame.FrameBody.TheVariants.{Empty, Open, Close}
use Rattle.amqp_session_frames.specs.declared.error.Error.{Error as FrameError}
use Rattle.amqp_session_frames.specs.declared.error.Error.TheVariants.{DecodeError, Memory as FrameMemory}
use Rattle.amqp_session_frames.specs.Text.{FrameText, NotRead}
use Rattle.amqp_session_frames.specs.Cutting.{said_size, IsPiece, ReadsAs}
use Rattle.amqp_endpoint_model.specs.declared.error.EndpointError.{EndpointError}
use Rattle.amqp_endpoint_model.specs.declared.error.EndpointError.TheVariants.{Memory, NotConnected, AlreadyConnected}
use Rattle.amqp_endpoint_model.specs.declared.error.EndpointError.TheVariants.{LimitUnder512, WindowOutOfRange}
use Rattle.amqp_endpoint_model.specs.declared.error.EndpointError.TheVariants.{FrameTooLarge, IllegalState}
use Rattle.amqp_endpoint_model.specs.declared.error.EndpointError.TheVariants.{NumbersUsedUp, ProtocolHeaderMismatch}
use Rattle.amqp_endpoint_model.specs.declared.error.EndpointError.TheVariants.{SizeUnder8, SizeOverLimit}
use Rattle.amqp_endpoint_model.specs.declared.error.EndpointError.TheVariants.{PeerLimitUnder512, Frame as FrameFault}
use Rattle.amqp_endpoint_model.specs.declared.error.EndpointError.TheVariants.{Connection, Session}
use Rattle.amqp_endpoint_model.specs.declared.event.Event.{Event}
use Rattle.amqp_endpoint_model.specs.declared.event.Event.TheVariants.{Opened, Closed}
use Rattle.amqp_endpoint_model.specs.declared.settings.Settings.{Settings}
use Rattle.amqp_endpoint_model.specs.declared.phase.Phase.{Phase}
use Rattle.amqp_endpoint_model.specs.declared.phase.Phase.TheVariants.{Unconnected, Greeting, Running, Over}
use Rattle.amqp_endpoint_model.specs.declared.call.Call.{Call}
use Rattle.amqp_endpoint_model.specs.declared.call.Call.TheVariants.{Connect, Feed, Pull, Queued, IsIdle, Heartbeat}
use Rattle.amqp_endpoint_model.specs.declared.call.Call.TheVariants.{BreakOff, Close as CloseCall, IsClosed, TryClose}
use Rattle.amqp_endpoint_model.specs.declared.call.Call.TheVariants.{Begin, AcceptBegin, End, IsEnded, TryEnd}
use Rattle.amqp_endpoint_model.specs.declared.call.Call.TheVariants.{AttachSender, AttachReceiver, Detach, CloseLink}
use Rattle.amqp_endpoint_model.specs.declared.call.Call.TheVariants.{Grant, Drain, Credit, HeldBack}
use Rattle.amqp_endpoint_model.specs.declared.call.Call.TheVariants.{Waiting as WaitingCall}
use Rattle.amqp_endpoint_model.specs.declared.call.Call.TheVariants.{Resume, Send, Dispose, DisposeAll}
use Rattle.amqp_session_performatives.specs.declared.open.Open.{Open as OpenFields}
use Rattle.amqp_session_performatives.specs.declared.session_frame.SessionFrame.{SessionFrame}
use Rattle.amqp_session_frames.specs.declared.state.ConnectionState.{ConnectionState}
use Rattle.amqp_session_frames.specs.declared.state.ConnectionState.TheVariants.{HeaderSent, HeaderExchange}
use Rattle.amqp_session_frames.specs.declared.state.ConnectionState.TheVariants.{OpenSent}
use Rattle.amqp_session_frames.specs.State as channels
use Rattle.amqp_session_frames.specs.Table.{after_incoming_close, after_incoming_open, after_send_close}
use Rattle.amqp_endpoint_model.specs.Relay.{Relations, IsOfSession, IsSessionFault}
use Rattle.amqp_endpoint_model.specs.Said.{Said, done, refused, fed, pulled, count, truth, tried_close, session_begun}
use Rattle.amqp_endpoint_model.specs.Said.{tried_end, attaching, link_closed, credit_is, waiting, message_sent}
use Rattle.amqp_endpoint_model.specs.State.{State, is_unconnected, is_running, has_opened, protocol_header, own_open}
use Rattle.amqp_endpoint_model.specs.State.{own_close_with, error_of, heartbeat, fits, frame_of, limit_of, Waiting}
use Rattle.amqp_endpoint_model.specs.State.{the_header, the_frame, text_of, waiting_of}

-- the first refusal that applies to settings (part 2, 2.7.1; 2.5.6)
abbrev pub refusal_of_settings : Settings → Option EndpointError
refusal_of_settings s =
    if nat_lt s.max_frame_size 512 then Some LimitUnder512 else
    if s.incoming_window == 0 then Some WindowOutOfRange else
    if nat_le (2 ^ 31) s.incoming_window then Some WindowOutOfRange else
    if fits 512 (own_open s) then None else Some FrameTooLarge

-- the own Open is queued, and no Close of either end is
abbrev pub goes_on : {S : Type 0} → State S → Bool
goes_on s = is_running s.phase && not s.own_close

-- the first refusal of the endpoint's own that applies to a call, want of memory aside
abbrev pub refusal : {S : Type 0} → State S → Call → Option EndpointError
refusal s Connect = if is_unconnected s.phase then None else Some AlreadyConnected
refusal s Heartbeat = if goes_on s then None else Some NotConnected
refusal s CloseCall =
    if has_opened s.phase then (if s.own_close then Some IllegalState else None) else Some NotConnected
refusal s Begin = if goes_on s then None else Some NotConnected
refusal s (AcceptBegin channel) = if goes_on s then None else Some NotConnected
refusal s call = None

-- the calls that may be refused for want of memory
abbrev pub Grows : Call → Type 0
Grows Connect = Unit {0}
Grows Pull = Unit {0}
Grows Heartbeat = Unit {0}
Grows CloseCall = Unit {0}
Grows call = ⊥

-- a call of the connection is refused so
abbrev pub MayRefuse : {S : Type 0} → State S → Call → EndpointError → Type 0
MayRefuse s call e = (refusal s call ≡ Some e) ⊎ ((refusal s call ≡ None) × (e ≡ Memory) × Grows call)

-- the conditions of a Close (part 2, 2.8.15, 2.8.16)
abbrev pub framing_error : List ℕ
framing_error = codes "amqp:connection:framing-error"

abbrev pub decode_error : List ℕ
decode_error = codes "amqp:decode-error"

abbrev pub not_allowed : List ℕ
not_allowed = codes "amqp:not-allowed"

abbrev pub not_found : List ℕ
not_found = codes "amqp:not-found"

abbrev pub condition_of_frame : FrameError → List ℕ
condition_of_frame DecodeError = decode_error
condition_of_frame e = not_allowed

abbrev pub condition_of_connection : ConnectionError → List ℕ
condition_of_connection NotFound = not_found
condition_of_connection e = not_allowed

-- a whole frame of at most so many bytes
pub record Admits (limit : ℕ) (bytes : List ℕ) (frame : Frame) : Type 0 where
  pub text : FrameText bytes frame
  pub short : length bytes ≤ limit

-- a piece that is no frame, and why, want of memory aside
abbrev pub NoFrame : FrameError → List ℕ → Type 0
NoFrame FrameMemory piece = ⊥
NoFrame e piece = NotRead piece e

-- the bytes begin with a whole piece of a size that may be
pub record Front (limit : ℕ) (left piece : List ℕ) : Type 0 where
  pub more : List ℕ
  pub whole : left ≡ piece ++ more
  pub piece_is : IsPiece piece
  pub short : length piece ≤ limit

-- less than a whole frame, of a size that may be
abbrev pub Waits : ℕ → List ℕ → Type 0
Waits limit left =
    (length left < 4) ⊎ ((8 ≤ said_size left) × (said_size left ≤ limit) × (length left < said_size left))

-- why no frame is read in front: its size may not be, or it is no frame, or there was no memory to read it
abbrev pub FrontUnread : ℕ → List ℕ → EndpointError → Type 0
FrontUnread limit left Memory = Unit {0}
FrontUnread limit left SizeUnder8 = (4 ≤ length left) × (said_size left < 8)
FrontUnread limit left SizeOverLimit = (4 ≤ length left) × (8 ≤ said_size left) × (limit < said_size left)
FrontUnread limit left (FrameFault e) = (piece : List ℕ) × Front limit left piece × NoFrame e piece
FrontUnread limit left e = ⊥

-- what the own Close says of a fault; nothing, where the connection ends without one
abbrev pub condition_of : EndpointError → Option (List ℕ)
condition_of SizeUnder8 = Some framing_error
condition_of SizeOverLimit = Some framing_error
condition_of PeerLimitUnder512 = Some framing_error
condition_of (FrameFault e) = Some (condition_of_frame e)
condition_of (Connection e) = Some (condition_of_connection e)
condition_of (Session e) = Some not_allowed
condition_of e = None

module _ {S : Type 0} where
  -- the own Open is queued
  abbrev pub with_open : State S → S → State S
  with_open s sessions =
      record s {
        phase = Running;
        rest = [];
        queue = s.queue ++ the_frame (own_open s.settings) ∷ [];
        sessions = sessions;
      }

  -- the connection is over without a frame: what is queued and unread goes
  abbrev pub cut_off : State S → S → State S
  cut_off s sessions = record s { phase = Unconnected; rest = []; queue = []; sessions = sessions }

  -- the queue with the own Close behind it, where that wasn't there
  abbrev pub with_close : State S → Frame → List Waiting
  with_close s close = if s.own_close then s.queue else s.queue ++ the_frame close ∷ []

  -- the peer's Close was taken: it is answered by a Close without an error
  abbrev pub closed : State S → S → State S
  closed s sessions =
      record s {
        phase = Over;
        own_close = true;
        peer_close = true;
        rest = [];
        queue = with_close s (own_close_with None);
        sessions = sessions;
      }

  -- a fault has ended the connection: the own Close tells its condition
  abbrev pub faulted : List ℕ → State S → S → State S
  faulted condition s sessions =
      record s {
        phase = Over;
        own_close = true;
        rest = [];
        queue = with_close s (own_close_with (Some (error_of condition)));
        sessions = sessions;
      }

  -- what was queued first is taken out, and its text is given
  abbrev pub Pulls : State S → Option (List ℕ) → State S → Type 0
  Pulls old None new = (old.queue ≡ []) × (new ≡ old)
  Pulls old (Some bytes) new =
      (first : Waiting) × (others : List Waiting) × (old.queue ≡ first ∷ others) × (bytes ≡ text_of first)
      × (new ≡ record old { queue = others })

  -- what try_close answers: the peer's Close is told of once
  abbrev pub close_refusal : State S → Option TryCloseError
  close_refusal s =
      if s.peer_close then (if s.close_told then Some AlreadyClosed else None) else Some RemoteCloseNotReceived

module _ {S : Type 0} (does : Relations S) where
  -- the same sessions, with the connection in another state
  abbrev pub at_state : S → ConnectionState → S
  at_state s state = does.moved s (record (does.connection s) { local_state = state })

  -- the connection went on as a row of its table says (part 2, 2.4.6)
  pub record MovesBy (row : ConnectionState → Option ConnectionState) (old new : S) : Type 0 where
    pub to : row (does.connection old).local_state ≡ Some (does.connection new).local_state
    pub is : new ≡ at_state old (does.connection new).local_state

  -- the peer's Open is taken: its channel-max is kept (part 2, 2.7.1)
  pub record MovesByOpen (o : OpenFields) (old new : S) : Type 0 where
    pub to : after_incoming_open (does.connection old).local_state ≡ Some (does.connection new).local_state
    pub is : new ≡ does.moved old (record (does.connection old) {
      local_state = (does.connection new).local_state;
      remote_channel_max = Some o.channel_max;
    })

  -- the own Close is sent, where it wasn't, with an error or without
  abbrev pub SendsClose : Bool → Bool → S → S → Type 0
  SendsClose true error old new = new ≡ old
  SendsClose false error old new = MovesBy (after_send_close error) old new

  -- both Close went: that of the peer is taken, and answered where the own one wasn't sent (part 2, 2.4.3)
  pub record ClosesBoth (own_close : Bool) (old new : S) : Type 0 where
    pub taken : S
    pub answered : S
    pub takes : MovesBy after_incoming_close old taken
    pub answers : SendsClose own_close false taken answered
    pub over : does.finishes answered new

  -- the own Close tells of a fault, where it wasn't sent
  pub record ClosesBy (own_close : Bool) (old new : S) : Type 0 where
    pub told : S
    pub tells : SendsClose own_close true old told
    pub over : does.finishes told new

  -- the own Close is sent without an error
  pub record ClosesOwn (old new : S) : Type 0 where
    pub sent : S
    pub sends : MovesBy (after_send_close false) old sent
    pub left : does.closes sent new

  -- the connection of these sessions begins anew: its header is sent (part 2, 2.2)
  abbrev pub anew : S → S
  anew s = does.moved s (channels.fresh HeaderSent (does.connection s).local_open)

  -- a new connection: the own header is queued (part 2, 2.2)
  abbrev pub connected : State S → State S
  connected s =
      record s {
        phase = Greeting;
        peer_limit = None;
        own_close = false;
        peer_close = false;
        close_told = false;
        rest = [];
        queue = the_header ∷ [];
        sessions = anew s.sessions;
      }

  -- both headers are exchanged, and the own Open is queued (part 2, 2.4.1)
  abbrev pub opened : State S → State S
  opened s = with_open s (at_state s.sessions OpenSent)

  -- the connection is broken off
  abbrev pub Breaks : State S → State S → Type 0
  Breaks old new = does.finishes old.sessions new.sessions × (new ≡ cut_off old new.sessions)

  -- the sessions take a frame: what they send then fits the limit of written frames
  pub record SessionsTake (old : State S) (channel : ℕ) (body : FrameBody) (events : List Event) (new : State S)
      : Type 0 where
    pub theirs : IsOfSession body
    pub frames : List SessionFrame
    pub takes : does.takes old.sessions (limit_of old.peer_limit) channel body frames events new.sessions
    pub fit : All (λ f. fits (limit_of old.peer_limit) (frame_of f) ≡ true) frames
    pub queued : new ≡ record old { sessions = new.sessions; queue = old.queue ++ map waiting_of frames }

  -- a body is taken, with these events
  abbrev pub TakesBody : State S → ℕ → FrameBody → List Event → State S → Type 0
  TakesBody old channel Empty events new = (events ≡ []) × (new ≡ old)
  TakesBody old channel (Open o) events new =
      (old.peer_limit ≡ None) × (512 ≤ o.max_frame_size)
      × (events ≡ Opened (record {
        container_id = o.container_id;
        max_frame_size = o.max_frame_size;
        channel_max = o.channel_max;
        idle_time_out = o.idle_time_out;
      }) ∷ [])
      × MovesByOpen o old.sessions new.sessions
      × (new ≡ record old { peer_limit = Some o.max_frame_size; sessions = new.sessions })
  TakesBody old channel (Close c) events new =
      (events ≡ Closed (record { error = c.error }) ∷ [])
      × ClosesBoth old.own_close old.sessions new.sessions
      × (new ≡ closed old new.sessions)
  TakesBody old channel body events new = SessionsTake old channel body events new

  -- a frame is taken while the connection runs
  abbrev pub Takes : State S → Frame → List Event → State S → Type 0
  Takes old frame events new = (old.phase ≡ Running) × TakesBody old frame.channel frame.body events new

  abbrev pub TakesAll : State S → List Frame → List Event → State S → Type 0
  TakesAll old [] events new = (events ≡ []) × (new ≡ old)
  TakesAll old (f ∷ fs) events new =
      (mid : State S) × (first : List Event) × (others : List Event) × Takes old f first mid
      × TakesAll mid fs others new × (events ≡ first ++ others)

  -- the sessions refuse a frame
  pub record SessionsRefuse (s : State S) (e : EndpointError) (channel : ℕ) (body : FrameBody) (sessions : S) : Type 0
    where
      pub theirs : IsOfSession body
      pub ends : IsSessionFault e
      pub refuses : does.refuses s.sessions (limit_of s.peer_limit) channel body e sessions

  -- a frame that is read and refused: an Open with a limit under 512, a second one (part 2, 2.7.1), or what the
  -- sessions refuse
  abbrev pub RefusesBody : State S → EndpointError → ℕ → FrameBody → S → Type 0
  RefusesBody s PeerLimitUnder512 channel (Open o) sessions =
      (s.peer_limit ≡ None) × (o.max_frame_size < 512) × (sessions ≡ s.sessions)
  RefusesBody s (Connection OutOfOrder) channel (Open o) sessions = IsSome s.peer_limit × (sessions ≡ s.sessions)
  RefusesBody s e channel body sessions = SessionsRefuse s e channel body sessions

  -- the frame in front is refused for what it says
  pub record FrontBarred (s : State S) (left : List ℕ) (e : EndpointError) (sessions : S) : Type 0 where
    pub piece : List ℕ
    pub frame : Frame
    pub front : Front s.settings.max_frame_size left piece
    pub text : FrameText piece frame
    pub refuses : RefusesBody s e frame.channel frame.body sessions

  -- why the frame in front is not taken. Where there is no memory it may be that there is none to tell of a refusal
  abbrev pub FrontRefused : State S → List ℕ → EndpointError → S → Type 0
  FrontRefused s left PeerLimitUnder512 sessions = FrontBarred s left PeerLimitUnder512 sessions
  FrontRefused s left (Connection e) sessions = FrontBarred s left (Connection e) sessions
  FrontRefused s left (Session e) sessions = FrontBarred s left (Session e) sessions
  FrontRefused s left NumbersUsedUp sessions = FrontBarred s left NumbersUsedUp sessions
  FrontRefused s left Memory sessions = (sessions ≡ s.sessions) ⊎ ((e : EndpointError) × FrontBarred s left e sessions)
  FrontRefused s left e sessions = FrontUnread s.settings.max_frame_size left e × (sessions ≡ s.sessions)

  -- the state behind a fault
  abbrev pub AfterFault : Option (List ℕ) → State S → State S → Type 0
  AfterFault (Some condition) s new =
      ClosesBy s.own_close s.sessions new.sessions × (new ≡ faulted condition s new.sessions)
  AfterFault None s new = Breaks s new

  -- the frame in front ends the connection
  pub record EndsByFault (mid : State S) (left : List ℕ) (e : EndpointError) (new : State S) : Type 0 where
    pub sessions : S
    pub refused : FrontRefused mid left e sessions
    pub after : AfterFault (condition_of e) (record mid { sessions = sessions }) new

  -- how a feed ends behind the frames that it took, in mid: what is left waits, or a fault in front of it ends the
  -- connection
  abbrev pub EndsRunning : State S → List ℕ → Option EndpointError → State S → Type 0
  EndsRunning mid left None new = Waits mid.settings.max_frame_size left × (new ≡ record mid { rest = left })
  EndsRunning mid left (Some e) new = EndsByFault mid left e new

  -- behind the peer's Close the rest is dropped
  abbrev pub EndsOver : State S → Option EndpointError → State S → Type 0
  EndsOver mid None new = new ≡ mid
  EndsOver mid (Some e) new = ⊥

  abbrev pub Ends : State S → Phase → List ℕ → Option EndpointError → State S → Type 0
  Ends mid Running left fault new = EndsRunning mid left fault new
  Ends mid Over left fault new = EndsOver mid fault new
  Ends mid phase left fault new = ⊥

  -- these bytes are read, what was left before among them: frames are taken, up to the end of the bytes, a fault or the
  -- peer's Close
  pub record ReadsOn (old : State S) (bytes : List ℕ) (events : List Event) (fault : Option EndpointError)
      (new : State S) : Type 0 where
    pub frames : List Frame
    pub left : List ℕ
    pub mid : State S
    pub read : ReadsAs (Admits old.settings.max_frame_size) bytes frames left
    pub taken : TakesAll (record old { rest = [] }) frames events mid
    pub ends : Ends mid mid.phase left fault new

  -- the connection is broken off where there is no memory, before the peer's header is taken or behind it
  abbrev pub BreaksGreeting : State S → State S → Type 0
  BreaksGreeting old new =
      Breaks old new ⊎ Breaks (record old { sessions = at_state old.sessions HeaderExchange }) new

  -- the peer's header is awaited (part 2, 2.2)
  abbrev pub Greets : State S → List ℕ → List Event → Option EndpointError → State S → Type 0
  Greets old bytes events fault new =
      ((length bytes < 8) × (events ≡ []) × (fault ≡ None) × (new ≡ record old { rest = bytes }))
      ⊎ ((8 ≤ length bytes) × (take 8 bytes ≢ protocol_header) × (events ≡ [])
      × (fault ≡ Some ProtocolHeaderMismatch) × Breaks old new)
      ⊎ ((take 8 bytes ≡ protocol_header) × ReadsOn (opened old) (drop 8 bytes) events fault new)
      ⊎ ((events ≡ []) × (fault ≡ Some Memory) × BreaksGreeting old new)

  abbrev pub FeedsIn : Phase → State S → List ℕ → List Event → Option EndpointError → State S → Type 0
  FeedsIn Unconnected old bytes events fault new = (events ≡ []) × (fault ≡ Some NotConnected) × (new ≡ old)
  FeedsIn Greeting old bytes events fault new = Greets old (old.rest ++ bytes) events fault new
  FeedsIn Running old bytes events fault new = ReadsOn old (old.rest ++ bytes) events fault new
  FeedsIn Over old bytes events fault new = (events ≡ []) × (fault ≡ None) × (new ≡ old)

  -- a call that concerns sessions is refused so: here, or by them
  abbrev pub SessionsRefuseCall : State S → Call → EndpointError → Type 0
  SessionsRefuseCall s call e =
      (refusal s call ≡ Some e)
      ⊎ ((refusal s call ≡ None) × does.bars s.sessions (limit_of s.peer_limit) call e)

  -- a call is refused so
  abbrev pub IsRefused : State S → Call → EndpointError → Type 0
  IsRefused s Begin e = SessionsRefuseCall s Begin e
  IsRefused s (AcceptBegin channel) e = SessionsRefuseCall s (AcceptBegin channel) e
  IsRefused s (End number) e = SessionsRefuseCall s (End number) e
  IsRefused s (AttachSender session settings) e = SessionsRefuseCall s (AttachSender session settings) e
  IsRefused s (AttachReceiver session settings) e = SessionsRefuseCall s (AttachReceiver session settings) e
  IsRefused s (Resume link session) e = SessionsRefuseCall s (Resume link session) e
  IsRefused s (Detach link) e = SessionsRefuseCall s (Detach link) e
  IsRefused s (CloseLink link) e = SessionsRefuseCall s (CloseLink link) e
  IsRefused s (Grant link credit) e = SessionsRefuseCall s (Grant link credit) e
  IsRefused s (Drain link) e = SessionsRefuseCall s (Drain link) e
  IsRefused s (Credit link) e = SessionsRefuseCall s (Credit link) e
  IsRefused s (HeldBack session) e = SessionsRefuseCall s (HeldBack session) e
  IsRefused s (WaitingCall session) e = SessionsRefuseCall s (WaitingCall session) e
  IsRefused s (Send link message) e = SessionsRefuseCall s (Send link message) e
  IsRefused s (Dispose link message disposal) e = SessionsRefuseCall s (Dispose link message disposal) e
  IsRefused s (DisposeAll link messages disposal) e = SessionsRefuseCall s (DisposeAll link messages disposal) e
  IsRefused s call e = MayRefuse s call e

  -- the sessions do what they are called for: what they send then fits the limit of written frames
  pub record SessionsDo (old : State S) (call : Call) (answer : Said) (new : State S) : Type 0 where
    pub allowed : refusal old call ≡ None
    pub frames : List SessionFrame
    -- nothing is sent where no frames are read
    pub quiet : is_running old.phase ≡ false → frames ≡ []
    pub calls : does.calls old.sessions (limit_of old.peer_limit) call answer frames new.sessions
    pub fit : All (λ f. fits (limit_of old.peer_limit) (frame_of f) ≡ true) frames
    pub queued : new ≡ record old { sessions = new.sessions; queue = old.queue ++ map waiting_of frames }

  -- the sessions answer what they are asked for, and nothing changes
  pub record SessionsAnswer (old : State S) (call : Call) (answer : Said) (new : State S) : Type 0 where
    pub allowed : refusal old call ≡ None
    pub calls : does.calls old.sessions (limit_of old.peer_limit) call answer [] old.sessions
    pub same : new ≡ old

  -- from old, a call may answer so and lead to new; a refusal changes nothing
  abbrev pub Step : State S → Call → Said → State S → Type 0
  Step old call (refused e) new = IsRefused old call e × (new ≡ old)
  Step old Connect done new = (refusal old Connect ≡ None) × (new ≡ connected old)
  Step old (Feed bytes) (fed events fault) new = FeedsIn old.phase old bytes events fault new
  Step old Pull (pulled o) new = Pulls old o new
  Step old Queued (count n) new = (n ≡ length old.queue) × (new ≡ old)
  Step old IsIdle (truth b) new = (b ≡ (length old.queue == 0)) × (new ≡ old)
  Step old Heartbeat done new =
      (refusal old Heartbeat ≡ None) × (new ≡ record old { queue = old.queue ++ the_frame heartbeat ∷ [] })
  Step old BreakOff done new = Breaks old new
  Step old CloseCall done new =
      (refusal old CloseCall ≡ None)
      × ClosesOwn old.sessions new.sessions
      × (new ≡ record old {
        own_close = true;
        queue = old.queue ++ the_frame (own_close_with None) ∷ [];
        sessions = new.sessions;
      })
  Step old IsClosed (truth b) new = (b ≡ (old.own_close && old.peer_close)) × (new ≡ old)
  Step old TryClose (tried_close o) new =
      (o ≡ close_refusal old) × (new ≡ record old { close_told = old.close_told || is_none o })
  Step old Begin (session_begun number) new = SessionsDo old Begin (session_begun number) new
  Step old (AcceptBegin channel) (session_begun number) new =
      SessionsDo old (AcceptBegin channel) (session_begun number) new
  Step old (End number) done new = SessionsDo old (End number) done new
  Step old (IsEnded number) (truth b) new = SessionsAnswer old (IsEnded number) (truth b) new
  Step old (TryEnd number) (tried_end o) new = SessionsDo old (TryEnd number) (tried_end o) new
  Step old (AttachSender session settings) (attaching link events) new =
      SessionsDo old (AttachSender session settings) (attaching link events) new
  Step old (AttachReceiver session settings) (attaching link events) new =
      SessionsDo old (AttachReceiver session settings) (attaching link events) new
  Step old (Resume link session) (attaching number events) new =
      SessionsDo old (Resume link session) (attaching number events) new
  Step old (Detach link) done new = SessionsDo old (Detach link) done new
  Step old (CloseLink link) (link_closed events) new = SessionsDo old (CloseLink link) (link_closed events) new
  Step old (Grant link credit) (credit_is left) new = SessionsDo old (Grant link credit) (credit_is left) new
  Step old (Drain link) done new = SessionsDo old (Drain link) done new
  Step old (Credit link) (credit_is left) new = SessionsAnswer old (Credit link) (credit_is left) new
  Step old (HeldBack session) (count n) new = SessionsAnswer old (HeldBack session) (count n) new
  Step old (WaitingCall session) (waiting turn) new = SessionsAnswer old (WaitingCall session) (waiting turn) new
  Step old (Send link message) (message_sent tag outcome) new =
      SessionsDo old (Send link message) (message_sent tag outcome) new
  Step old (Dispose link message disposal) done new = SessionsDo old (Dispose link message disposal) done new
  Step old (DisposeAll link messages disposal) done new = SessionsDo old (DisposeAll link messages disposal) done new
  Step old call said new = ⊥
