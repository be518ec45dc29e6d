-- Whole histories of one endpoint: its calls with what they answered.
use Rattle.std.specs.Prelude.{◌≡◌, ◌≢◌, ℕ, ◌≤◌, ◌<◌, ◌||◌, ◌⊎◌, Bool, true, false, List, [], ◌∷◌, ◌++◌, length, take}
use Rattle.std.specs.Prelude.{Option, Some, None, if◌then◌else◌, nat_lt}
use Rattle.amqp_session_performatives.specs.declared.open.Open.{Open as OpenFields}
use Rattle.amqp_session_frames.specs.declared.frame.Frame.{Frame}
use Rattle.amqp_session_frames.specs.declared.frame.FrameBody.{FrameBody}
use Rattle.amqp_session_frames.specs.declared.frame.FrameBody.TheVariants.{Empty, Open, Close}
use Rattle.amqp_session_types.specs.declared.refusals.ConnectionError.TheVariants.{IllegalState as OutOfOrder}
use Rattle.amqp_session_performatives.specs.declared.session_frame.SessionFrame.{SessionFrame}
use Rattle.amqp_session_frames.specs.Text.{FrameText}
use Rattle.amqp_session_frames.specs.Cutting.{Cut, ReadsAs}
use Rattle.amqp_endpoint_model.specs.declared.error.EndpointError.{EndpointError}
use Rattle.amqp_endpoint_model.specs.declared.error.EndpointError.TheVariants.{Memory, NotConnected, NumbersUsedUp}
use Rattle.amqp_endpoint_model.specs.declared.error.EndpointError.TheVariants.{ProtocolHeaderMismatch}
use Rattle.amqp_endpoint_model.specs.declared.error.EndpointError.TheVariants.{PeerLimitUnder512, Connection, Session}
use Rattle.amqp_endpoint_model.specs.declared.event.Event.{Event}
use Rattle.amqp_endpoint_model.specs.declared.event.Event.TheVariants.{Opened, Closed}
use Rattle.amqp_endpoint_model.specs.declared.call.Call.{Call}
use Rattle.amqp_endpoint_model.specs.declared.call.Call.TheVariants.{Connect, Feed}
use Rattle.amqp_endpoint_model.specs.Said.{Said, done, refused, fed, pulled, Told}
use Rattle.amqp_endpoint_model.specs.State.{State, protocol_header}
use Rattle.amqp_endpoint_model.specs.Relay.{Relations, IsOfSession, IsSessionFault}
use Rattle.amqp_endpoint_model.specs.Step.{Step, Admits, Waits, Front, FrontUnread}

module _ {S : Type 0} (does : Relations S) where
  -- the calls may be answered so, one after the other
  abbrev pub Run : State S → List Call → List Told → State S → Type 0
  Run old [] [] new = new ≡ old
  Run old (call ∷ calls) (t ∷ ts) new =
      (mid : State S) × Step does old call t.answer mid × (t.queued ≡ length mid.queue) × Run mid calls ts new
  Run old [] (t ∷ ts) new = ⊥
  Run old (call ∷ calls) [] new = ⊥

-- what a history comes to since the latest connect: read off the calls and answers alone
pub record Summary : Type 0 where
  -- the bytes fed; a feed with the fault NotConnected takes none
  pub fed : List ℕ
  pub events : List Event
  -- the first fault
  pub fault : Option EndpointError

abbrev pub nothing : Summary
nothing = record { fed = []; events = []; fault = None }

abbrev pub first_fault : Option EndpointError → Option EndpointError → Option EndpointError
first_fault (Some e) later = Some e
first_fault None later = later

abbrev pub note_fed : Summary → List ℕ → List Event → Option EndpointError → Summary
note_fed σ bytes events (Some NotConnected) = σ
note_fed σ bytes events fault =
    record { fed = σ.fed ++ bytes; events = σ.events ++ events; fault = first_fault σ.fault fault }

abbrev pub note : Summary → Call → Said → Summary
note σ Connect done = nothing
note σ (Feed bytes) (fed events fault) = note_fed σ bytes events fault
note σ call said = σ

abbrev pub summary : Summary → List Call → List Told → Summary
summary σ (call ∷ calls) (t ∷ ts) = summary (note σ call t.answer) calls ts
summary σ calls ts = σ

module _ {S : Type 0} (does : Relations S) where
  -- the sessions tell this as they take a frame
  pub record SessionsTell (f : Frame) (events : List Event) : Type 0 where
    pub theirs : IsOfSession f.body
    pub before : S
    pub limit : ℕ
    pub frames : List SessionFrame
    pub behind : S
    pub takes : does.takes before limit f.channel f.body frames events behind

  -- what a frame tells that is taken
  abbrev pub BodyTells : FrameBody → Frame → List Event → Type 0
  BodyTells Empty f events = events ≡ []
  BodyTells (Open o) f events =
      events ≡ Opened (record {
        container_id = o.container_id;
        max_frame_size = o.max_frame_size;
        channel_max = o.channel_max;
        idle_time_out = o.idle_time_out;
      }) ∷ []
  BodyTells (Close c) f events = events ≡ Closed (record { error = c.error }) ∷ []
  BodyTells body f events = SessionsTell f events

  abbrev pub FrameTells : Frame → List Event → Type 0
  FrameTells f events = BodyTells f.body f events

  -- frames tell this, one after the other
  abbrev pub FramesTell : List Frame → List Event → Type 0
  FramesTell [] events = events ≡ []
  FramesTell (f ∷ fs) events =
      (first : List Event) × (others : List Event) × FrameTells f first × FramesTell fs others
      × (events ≡ first ++ others)

abbrev pub is_open : FrameBody → Bool
is_open (Open o) = true
is_open body = false

abbrev pub is_close : FrameBody → Bool
is_close (Close c) = true
is_close body = false

-- whether an Open is among the frames
abbrev pub has_open : List Frame → Bool
has_open [] = false
has_open (f ∷ fs) = is_open f.body || has_open fs

-- whether a Close is among the frames
abbrev pub has_close : List Frame → Bool
has_close [] = false
has_close (f ∷ fs) = is_close f.body || has_close fs

-- nothing is read behind a Close
abbrev pub CloseIsLast : List Frame → Type 0
CloseIsLast [] = Unit {0}
CloseIsLast (f ∷ fs) = (is_close f.body ≡ true → fs ≡ []) × CloseIsLast fs

-- an Open has a limit of at least 512, and no other one is read behind it (part 2, 2.7.1)
abbrev pub OpenIsTaken : FrameBody → List Frame → Type 0
OpenIsTaken (Open o) later = (512 ≤ o.max_frame_size) × (has_open later ≡ false)
OpenIsTaken body later = Unit {0}

abbrev pub OpenIsOnce : List Frame → Type 0
OpenIsOnce [] = Unit {0}
OpenIsOnce (f ∷ fs) = OpenIsTaken f.body fs × OpenIsOnce fs

-- a whole piece comes next, and it is this frame
pub record Next (limit : ℕ) (left : List ℕ) (frame : Frame) : Type 0 where
  pub piece : List ℕ
  pub front : Front limit left piece
  pub text : FrameText piece frame

-- the next frame is an Open
pub record NextOpen (limit : ℕ) (left : List ℕ) (o : OpenFields) : Type 0 where
  pub channel : ℕ
  pub next : Next limit left (record { channel = channel; body = Open o })

module _ {S : Type 0} (does : Relations S) where
  -- the sessions refuse the next frame
  pub record NextRefused (limit : ℕ) (left : List ℕ) (e : EndpointError) : Type 0 where
    pub frame : Frame
    pub next : Next limit left frame
    pub theirs : IsOfSession frame.body
    pub ends : IsSessionFault e
    pub before : S
    pub written : ℕ
    pub behind : S
    pub refuses : does.refuses before written frame.channel frame.body e behind

  -- why no frame more is read of what is left: there is less than a whole one, the peer closed, or a fault stands in
  -- front
  abbrev pub Stops : ℕ → List Frame → List ℕ → Option EndpointError → Type 0
  Stops limit frames left None = Waits limit left ⊎ (has_close frames ≡ true)
  Stops limit frames left (Some PeerLimitUnder512) =
      (o : OpenFields) × NextOpen limit left o × (has_open frames ≡ false) × (o.max_frame_size < 512)
  Stops limit frames left (Some (Connection OutOfOrder)) =
      (o : OpenFields) × NextOpen limit left o × (has_open frames ≡ true)
  Stops limit frames left (Some (Connection e)) = NextRefused limit left (Connection e)
  Stops limit frames left (Some (Session e)) = NextRefused limit left (Session e)
  Stops limit frames left (Some NumbersUsedUp) = NextRefused limit left NumbersUsedUp
  Stops limit frames left (Some e) = FrontUnread limit left e

  -- behind the header the bytes fed are these frames, each once and in order, and then what is left
  pub record Framed (limit : ℕ) (σ : Summary) : Type 0 where
    pub body : List ℕ
    pub header : σ.fed ≡ protocol_header ++ body
    pub frames : List Frame
    pub left : List ℕ
    pub read : ReadsAs (Admits limit) body frames left
    pub told : FramesTell does frames σ.events
    pub closes : CloseIsLast frames
    pub once : OpenIsOnce frames
    pub well : has_close frames ≡ true → σ.fault ≡ None
    pub stops : Stops limit frames left σ.fault

  -- the frames stepped through since the latest connect are the pieces of all bytes fed since then, up to a fault or
  -- the peer's Close (part 2, 2.2, 2.3)
  abbrev pub Pieces : ℕ → Summary → Type 0
  Pieces limit σ =
      ((length σ.fed < 8) × (σ.events ≡ []) × (σ.fault ≡ None))
      ⊎ ((8 ≤ length σ.fed) × (take 8 σ.fed ≢ protocol_header) × (σ.events ≡ [])
      × (σ.fault ≡ Some ProtocolHeaderMismatch))
      ⊎ ((σ.events ≡ []) × (σ.fault ≡ Some Memory))
      ⊎ Framed limit σ

-- one list begins with the other
pub record IsFront (fs gs : List Frame) : Type 0 where
  pub more : List Frame
  pub whole : gs ≡ fs ++ more

-- the limit that a judge of the wire holds written frames to: 512, and behind the first Open of the peer its
-- max-frame-size, where that is at least 512 (part 2, 2.4.1, 2.7.1)
abbrev pub agreed : ℕ → ℕ
agreed n = if nat_lt n 512 then 512 else n

pub record IsOpen (piece : List ℕ) (o : OpenFields) : Type 0 where
  pub channel : ℕ
  pub text : FrameText piece (record { channel = channel; body = Open o })

abbrev pub JudgedBy : List (List ℕ) → ℕ → Type 0
JudgedBy [] limit = limit ≡ 512
JudgedBy (piece ∷ pieces) limit =
    ((o : OpenFields) × IsOpen piece o × (limit ≡ agreed o.max_frame_size))
    ⊎ (((o : OpenFields) → IsOpen piece o → ⊥) × JudgedBy pieces limit)

-- the judge's limit behind these bytes of the peer
abbrev pub judge_limit : List ℕ → ℕ → Type 0
judge_limit bytes limit =
    ((length bytes < 8) × (limit ≡ 512))
    ⊎ ((header : List ℕ) × (pieces : List (List ℕ)) × (rest : List ℕ) × Cut bytes header pieces rest
    × JudgedBy pieces limit)

abbrev pub IsWithin : List ℕ → Said → Type 0
IsWithin bytes (pulled (Some text)) = (limit : ℕ) → judge_limit bytes limit → length text ≤ limit
IsWithin bytes said = Unit {0}

-- every answer of bytes is within the judge's limit as it was given
abbrev pub KeepsLimit : Summary → List Call → List Told → Type 0
KeepsLimit σ (call ∷ calls) (t ∷ ts) = IsWithin σ.fed t.answer × KeepsLimit (note σ call t.answer) calls ts
KeepsLimit σ calls ts = Unit {0}

-- calls with each feed joined to the one before it
abbrev pub feed_before : List ℕ → List Call → List Call
feed_before bytes (Feed more ∷ calls) = Feed (bytes ++ more) ∷ calls
feed_before bytes calls = Feed bytes ∷ calls

abbrev pub feeds_joined : List Call → List Call
feeds_joined [] = []
feeds_joined (Feed bytes ∷ calls) = feed_before bytes (feeds_joined calls)
feeds_joined (call ∷ calls) = call ∷ feeds_joined calls

-- the answers of adjacent feeds as that of one: their events, the first fault, and what is queued behind the last
abbrev pub merged_answer : Said → Said → Said
merged_answer (fed events fault) (fed more later) = fed (events ++ more) (first_fault fault later)
merged_answer a b = a

abbrev pub merged : Told → Told → Told
merged t u = record { answer = merged_answer t.answer u.answer; queued = u.queued }

-- what a feed told, and then what was told of these calls
abbrev pub told_before : Told → List Call → List Told → List Told
told_before t (Feed more ∷ calls) (u ∷ us) = merged t u ∷ us
told_before t calls us = t ∷ us

-- what was told, that of adjacent feeds as one
abbrev pub told_joined : List Call → List Told → List Told
told_joined (Feed bytes ∷ calls) (t ∷ ts) = told_before t (feeds_joined calls) (told_joined calls ts)
told_joined (call ∷ calls) (t ∷ ts) = t ∷ told_joined calls ts
told_joined calls ts = []

-- no answer for want of memory
abbrev pub HasMemory : Said → Type 0
HasMemory (refused e) = e ≢ Memory
HasMemory (fed events fault) = fault ≢ Some Memory
HasMemory said = Unit {0}

abbrev pub AllHaveMemory : List Told → Type 0
AllHaveMemory [] = Unit {0}
AllHaveMemory (t ∷ ts) = HasMemory t.answer × AllHaveMemory ts
