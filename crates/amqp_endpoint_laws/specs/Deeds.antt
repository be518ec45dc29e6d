-- What is done in a run of an endpoint, and what passes between it and its peer by that (part 2, 2.2, 2.4, 2.5).
use Rattle.std.specs.Prelude.{◌≡◌, ◌⊎◌, ◌||◌, ◌≤◌, ℕ, List, [], ◌∷◌, ◌++◌, Bool, true, false, Option, Some, None}
use Rattle.std.specs.Prelude.{All, flat_map, map}
use Rattle.amqp_session_frames.specs.State as channels
use Rattle.amqp_session_frames.specs.Table.{after_incoming_close, after_send_close}
use Rattle.amqp_session_frames.specs.declared.state.ConnectionState.TheVariants.{HeaderExchange, OpenSent}
use Rattle.amqp_session_performatives.specs.declared.session_frame.SessionFrame.{SessionFrame}
use Rattle.amqp_session_types.specs.declared.error.Error.{Error}
use Rattle.amqp_session_frames.specs.Cutting.{ReadsAs}
use Rattle.amqp_session_frames.specs.declared.frame.Frame.{Frame}
use Rattle.amqp_session_frames.specs.declared.frame.FrameBody.{FrameBody}
use Rattle.amqp_session_frames.specs.declared.frame.FrameBody.TheVariants.{Close, Empty, Open}
use Rattle.amqp_endpoint_model.specs.declared.call.Call.{Call}
use Rattle.amqp_endpoint_model.specs.declared.call.Call.TheVariants.{Connect, Feed}
use Rattle.amqp_endpoint_model.specs.declared.error.EndpointError.{EndpointError}
use Rattle.amqp_endpoint_model.specs.declared.event.Event.{Event}
use Rattle.amqp_endpoint_model.specs.declared.phase.Phase.{Phase}
use Rattle.amqp_endpoint_model.specs.declared.phase.Phase.TheVariants.{Unconnected, Greeting, Running, Over}
use Rattle.amqp_endpoint_model.specs.History.{FrameTells, is_close}
use Rattle.amqp_endpoint_model.specs.Relay.{IsOfSession, IsSessionFault, Relations}
use Rattle.amqp_endpoint_model.specs.Said.{Said, Told, done, fed, pulled}
use Rattle.amqp_endpoint_model.specs.declared.settings.Settings.{Settings}
use Rattle.amqp_endpoint_model.specs.State.{State, Waiting, fits, frame_of, heartbeat, is_unconnected, limit_of}
use Rattle.amqp_endpoint_model.specs.State.{own_close_with, own_open, protocol_header, text_of, the_frame, the_header}
use Rattle.amqp_endpoint_model.specs.State.{waiting_of}
use Rattle.amqp_endpoint_model.specs.Step.{Admits, ClosesBy, MovesBy, MovesByOpen, anew}
use Rattle.amqp_endpoint_laws.specs.CallsDone.{call_done, events_of}

-- one thing that is done
pub data Deed : Type 0 where
  -- the connection's own header, Open or Close is queued, or an empty frame
  Queues : (it : Waiting) → Deed
  -- a frame of the peer's is taken that is the connection's, which goes on by it, and these events are told
  Hears : (frame : Frame) (events : List Event) → Deed
  -- the sessions take one, where written frames have a limit: these frames are queued, and these events are told
  Takes : (limit : ℕ) (frame : Frame) (frames : List SessionFrame) (events : List Event) → Deed
  -- they refuse one, and the connection is over by that, behind its own Close. None is sent by it where one had gone
  -- before, or where the connection is broken off
  Refuses : (limit : ℕ) (frame : Frame) (error : EndpointError) (own_close : Bool) → Deed
  -- they do what they are called for: it is answered so, and these frames are queued
  Does : (limit : ℕ) (call : Call) (answer : Said) (frames : List SessionFrame) → Deed
  -- their connection takes the peer's header, or sends its own Open or Close
  Moves : (connection : channels.State) → Deed
  -- it begins anew
  Renews : Deed
  -- its own Close is sent
  Closes : Deed
  -- it is over
  Finishes : Deed

-- what is queued by it, in order
abbrev pub queued_in : Deed → List Waiting
queued_in (Queues it) = it ∷ []
queued_in (Takes limit frame frames events) = map waiting_of frames
queued_in (Does limit call answer frames) = map waiting_of frames
queued_in deed = []

abbrev pub queued_by : List Deed → List Waiting
queued_by deeds = flat_map queued_in deeds

-- the frame of the peer's that is taken in it
abbrev pub taken_in : Deed → List Frame
taken_in (Hears frame events) = frame ∷ []
taken_in (Takes limit frame frames events) = frame ∷ []
taken_in deed = []

abbrev pub taken_by : List Deed → List Frame
taken_by deeds = flat_map taken_in deeds

-- the events that are told in it
abbrev pub told_in : Deed → List Event
told_in (Hears frame events) = events
told_in (Takes limit frame frames events) = events
told_in (Does limit call answer frames) = events_of answer
told_in deed = []

abbrev pub told_by : List Deed → List Event
told_by deeds = flat_map told_in deeds

-- the call that the sessions do in it, with its answer
abbrev pub done_in : Deed → List (Call × Said)
done_in (Does limit call answer frames) = (call, answer) ∷ []
done_in deed = []

abbrev pub done_by : List Deed → List (Call × Said)
done_by deeds = flat_map done_in deeds

-- the peer's header comes, and the own Open is sent behind it; or the header alone, where there is no memory for that
-- (part 2, 2.2, 2.4.1)
abbrev pub HeaderComes : channels.State → channels.State → Type 0
HeaderComes old new =
    (new ≡ record old { local_state = OpenSent }) ⊎ (new ≡ record old { local_state = HeaderExchange })

-- the own Close is sent, with an error or without (part 2, 2.4.3, 2.4.6)
abbrev pub OwnCloseGoes : channels.State → channels.State → Type 0
OwnCloseGoes old new =
    (error : Bool) × (after_send_close error old.local_state ≡ Some new.local_state)
    × (new ≡ record old { local_state = new.local_state })

module _ {S : Type 0} (does : Relations S) where
  -- a frame is refused, and the connection is over, behind the own Close where that hadn't gone
  pub record EndsBy (old : S) (limit : ℕ) (frame : Frame) (error : EndpointError) (own_close : Bool) (new : S) : Type 0
    where
      pub refused : S
      pub refuses : does.refuses old limit frame.channel frame.body error refused
      pub closes : ClosesBy does own_close refused new

  -- the peer's Open or Close moves its connection on, and an empty frame doesn't (part 2, 2.4.1, 2.4.3, 2.4.5)
  abbrev pub MovesByFrame : FrameBody → S → S → Type 0
  MovesByFrame Empty old new = new ≡ old
  MovesByFrame (Open peer) old new = MovesByOpen does peer old new
  MovesByFrame (Close close) old new = MovesBy does after_incoming_close old new
  MovesByFrame body old new = ⊥

  -- the sessions around it
  abbrev pub IsDeed : S → Deed → S → Type 0
  IsDeed old (Queues it) new = new ≡ old
  IsDeed old (Hears frame events) new = MovesByFrame frame.body old new × FrameTells does frame events
  IsDeed old (Takes limit frame frames events) new = does.takes old limit frame.channel frame.body frames events new
  IsDeed old (Refuses limit frame error own_close) new = EndsBy old limit frame error own_close new
  IsDeed old (Does limit call answer frames) new = does.calls old limit call answer frames new
  IsDeed old (Moves connection) new =
      (HeaderComes (does.connection old) connection ⊎ OwnCloseGoes (does.connection old) connection)
      × (new ≡ does.moved old connection)
  IsDeed old Renews new = new ≡ anew does old
  IsDeed old Closes new = does.closes old new
  IsDeed old Finishes new = does.finishes old new

  -- around one after the other
  abbrev pub AreDone : S → List Deed → S → Type 0
  AreDone old [] new = new ≡ old
  AreDone old (deed ∷ deeds) new = (mid : S) × IsDeed old deed mid × AreDone mid deeds new

-- what was noted of calls and their answers since the latest connect
abbrev pub note : {A : Type 0} → (Call → Said → List A) → List A → Call → Said → List A
note noted all Connect done = []
note noted all call answer = all ++ noted call answer

abbrev pub noted_since : {A : Type 0} → (Call → Said → List A) → List A → List Call → List Told → List A
noted_since noted all (call ∷ calls) (t ∷ ts) = noted_since noted (note noted all call t.answer) calls ts
noted_since noted all calls ts = all

-- what pull gave since then
abbrev pub given_by : Call → Said → List (List ℕ)
given_by call (pulled (Some text)) = text ∷ []
given_by call answer = []

abbrev pub pulled_since : List (List ℕ) → List Call → List Told → List (List ℕ)
pulled_since given calls ts = noted_since given_by given calls ts

-- the bytes fed since then
abbrev pub fed_by : Call → Said → List ℕ
fed_by (Feed bytes) (fed events fault) = bytes
fed_by call answer = []

abbrev pub fed_since : List ℕ → List Call → List Told → List ℕ
fed_since bytes calls ts = noted_since fed_by bytes calls ts

-- the events told since then
abbrev pub told_since : List Event → List Call → List Told → List Event
told_since events calls ts = noted_since (λ call. events_of) events calls ts

-- the calls that the sessions did since then, with their answers
abbrev pub done_since : List (Call × Said) → List Call → List Told → List (Call × Said)
done_since did calls ts = noted_since call_done did calls ts

-- what is read of these bytes: nothing before the peer's header is whole (part 2, 2.2), and behind it these frames, one
-- behind the other. As long as frames are read, what is left waits
abbrev pub AreRead : Phase → ℕ → List ℕ → List Frame → List ℕ → Type 0
AreRead Unconnected limit bytes frames rest = Unit {0}
AreRead Greeting limit bytes frames rest = (frames ≡ []) × (bytes ≡ rest)
AreRead Running limit bytes frames rest =
    (body : List ℕ) × (bytes ≡ protocol_header ++ body) × ReadsAs (Admits limit) body frames rest
AreRead Over limit bytes frames rest =
    (body : List ℕ) × (left : List ℕ) × (bytes ≡ protocol_header ++ body) × ReadsAs (Admits limit) body frames left

-- of each deed this is so, by what those before it came to
abbrev pub Throughout : {A : Type 0} → (A → Deed → A) → (A → Deed → Type 0) → A → List Deed → Type 0
Throughout behind P from [] = Unit {0}
Throughout behind P from (deed ∷ deeds) = P from deed × Throughout behind P (behind from deed) deeds

-- what deeds came to
abbrev pub come_to : {A : Type 0} → (A → Deed → A) → A → List Deed → A
come_to behind from [] = from
come_to behind from (deed ∷ deeds) = come_to behind (behind from deed) deeds

-- whether a connection is up behind a deed, where it was so before it or wasn't: from where it begins anew up to where
-- it is over
abbrev pub up_behind : Bool → Deed → Bool
up_behind up (Refuses limit frame error own_close) = false
up_behind up Renews = true
up_behind up Finishes = false
up_behind up deed = up

-- a connection is up in these phases: the peer's header is awaited, or frames are read
abbrev pub is_up : Phase → Bool
is_up Greeting = true
is_up Running = true
is_up phase = false

-- frames are taken as long as the connection is up, and else nothing is handed out. It begins anew where it isn't up
abbrev pub MayPass : Bool → Deed → Type 0
MayPass up (Hears frame events) = up ≡ true
MayPass up (Takes limit frame frames events) = up ≡ true
MayPass up (Refuses limit frame error own_close) = up ≡ true
MayPass up (Does limit call answer frames) = up ≡ false → frames ≡ []
MayPass up Renews = up ≡ false
MayPass up deed = Unit {0}

-- by none of these deeds the connection begins anew
abbrev pub NoneRenews : List Deed → Type 0
NoneRenews [] = Unit {0}
NoneRenews (Renews ∷ later) = ⊥
NoneRenews (deed ∷ later) = NoneRenews later

-- a frame that the connection queues of itself: its Open, by these settings, an empty one, or its Close, which fits
-- every peer's limit (part 2, 2.4.1, 2.4.3, 2.4.5)
abbrev pub IsOwnFrame : Settings → Frame → Type 0
IsOwnFrame settings frame =
    (frame ≡ own_open settings) ⊎ (frame ≡ heartbeat)
    ⊎ ((error : Option Error) × (frame ≡ own_close_with error) × (fits 512 frame ≡ true))

-- by none of these deeds the connection begins anew or queues its header: what it queues of itself are frames
abbrev pub KeepToFrames : Settings → List Deed → Type 0
KeepToFrames settings [] = Unit {0}
KeepToFrames settings (Renews ∷ later) = ⊥
KeepToFrames settings (Queues the_header ∷ later) = ⊥
KeepToFrames settings (Queues (the_frame frame) ∷ later) = IsOwnFrame settings frame × KeepToFrames settings later
KeepToFrames settings (deed ∷ later) = KeepToFrames settings later

-- deeds of one connection, from where it begins anew on: its header is queued first and once, and then frames (part 2,
-- 2.2)
pub record AreOfOne (settings : Settings) (deeds : List Deed) : Type 0 where
  pub later : List Deed
  pub is : deeds ≡ Renews ∷ later
  pub none : NoneRenews later
  pub behind : List Deed
  pub header : later ≡ Queues the_header ∷ behind
  pub frames : KeepToFrames settings behind

-- the own Close waits to be pulled
abbrev pub is_own_close : Waiting → Bool
is_own_close the_header = false
is_own_close (the_frame frame) = is_close frame.body

-- whether it was queued since the latest connect, behind a deed, where it was so before it or wasn't
abbrev pub closed_behind : Bool → Deed → Bool
closed_behind closed (Queues it) = is_own_close it || closed
closed_behind closed Renews = false
closed_behind closed deed = closed

-- it is queued at most once, and a refusal sends it where it wasn't sent before (part 2, 2.4.3)
abbrev pub MayClose : Bool → Deed → Type 0
MayClose closed (Queues it) = is_own_close it ≡ true → closed ≡ false
MayClose closed (Refuses limit frame error own_close) = own_close ≡ closed
MayClose closed deed = Unit {0}

-- the max-frame-size of the peer's Open since the latest connect, behind a deed, where it was so before (part 2, 2.7.1)
abbrev pub opened_with : Option ℕ → FrameBody → Option ℕ
opened_with peer (Open it) = Some it.max_frame_size
opened_with peer it = peer

abbrev pub opened_behind : Option ℕ → Deed → Option ℕ
opened_behind peer (Hears frame events) = opened_with peer frame.body
opened_behind peer Renews = None
opened_behind peer deed = peer

-- the peer's Open comes once, and allows 512 bytes at least (part 2, 2.7.1)
abbrev pub MayOpen : Option ℕ → FrameBody → Type 0
MayOpen peer (Open it) = (peer ≡ None) × (512 ≤ it.max_frame_size)
MayOpen peer it = Unit {0}

-- written frames have the limit that the peer allows, and what the sessions send fits it (part 2, 2.4.1)
abbrev pub IsWithin : ℕ → ℕ → List SessionFrame → Type 0
IsWithin allowed limit frames = (limit ≡ allowed) × All (λ f. fits limit (frame_of f) ≡ true) frames

-- what the connection queues of itself is its header, or no frame of a session (part 2, 2.2, 2.4)
abbrev pub IsOwn : Waiting → Type 0
IsOwn the_header = Unit {0}
IsOwn (the_frame frame) = IsOfSession frame.body → ⊥

-- a deed is in order, behind an Open that allows this
abbrev pub IsInOrder : Option ℕ → Deed → Type 0
IsInOrder peer (Queues it) = IsOwn it
IsInOrder peer (Hears frame events) = MayOpen peer frame.body
IsInOrder peer (Takes limit frame frames events) = IsOfSession frame.body × IsWithin (limit_of peer) limit frames
IsInOrder peer (Refuses limit frame error own_close) =
    IsOfSession frame.body × IsSessionFault error × (limit ≡ limit_of peer)
IsInOrder peer (Does limit call answer frames) = IsWithin (limit_of peer) limit frames
IsInOrder peer deed = Unit {0}

-- what passes on a connection that isn't cut off: what pull gave and what is queued still are what these deeds queue,
-- and the frames that they take are what is read of the bytes fed. The own Close goes at most once
pub record Passes {S : Type 0} (limit : ℕ) (deeds : List Deed) (given : List (List ℕ)) (bytes : List ℕ) (s : State S)
    : Type 0 where
  pub queued : map text_of (queued_by deeds) ≡ given ++ map text_of s.queue
  pub read : AreRead s.phase limit bytes (taken_by deeds) s.rest
  pub once : Throughout closed_behind MayClose false deeds
  pub closed : come_to closed_behind false deeds ≡ s.own_close

-- these events are told by deeds, and these calls done
pub record Tell (deeds : List Deed) (events : List Event) (did : List (Call × Said)) : Type 0 where
  pub told : told_by deeds ≡ events
  pub calls : done_by deeds ≡ did

-- sessions stand as these deeds leave them, up to the latest connect and since, where pull gave so much since then,
-- these bytes were fed, these events told and these calls done, and so many were told and done in all; and what they
-- write keeps to the peer's limit. Frames pass while the connection is up, and the deeds since the latest connect are
-- those of one connection, as long as it isn't cut off
pub record IsDone {S : Type 0} (does : Relations S) (limit : ℕ) (start : S) (given : List (List ℕ)) (bytes : List ℕ)
    (events : List Event) (did : List (Call × Said)) (all_events : List Event) (all_did : List (Call × Said))
    (s : State S) : Type 0 where
  pub before : List Deed
  pub since : List Deed
  pub are_done : AreDone does start (before ++ since) s.sessions
  pub passes : is_unconnected s.phase ≡ false → Passes limit since given bytes s
  pub latest : Tell since events did
  pub all : Tell (before ++ since) all_events all_did
  pub in_order : Throughout opened_behind IsInOrder None (before ++ since)
  pub peer : come_to opened_behind None (before ++ since) ≡ s.peer_limit
  pub up_in_order : Throughout up_behind MayPass false (before ++ since)
  pub up : come_to up_behind false (before ++ since) ≡ is_up s.phase
  pub of_one : is_unconnected s.phase ≡ false → AreOfOne s.settings since
