-- The frames of one session, read off the channel of one of its ends alone (part 2, 2.5.1, 2.5.2).
use Rattle.std.specs.Prelude.{◌≡◌, ◌≢◌, ◌==◌, ◌&&◌, ℕ, zero, suc, ◌+◌, Bool, true, false, List, [], ◌∷◌, ◌++◌, Some}
use Rattle.std.specs.Prelude.{if◌then◌else◌, IsSome}
use Rattle.amqp_session_frames.specs.declared.frame.Frame.{Frame}
use Rattle.amqp_session_frames.specs.declared.frame.FrameBody.{FrameBody}
use Rattle.amqp_session_frames.specs.declared.frame.FrameBody.TheVariants as body
use Rattle.amqp_session_performatives.specs.declared.session_frame.SessionFrame.{SessionFrame}
use Rattle.amqp_session_performatives.specs.declared.session_frame.SessionFrameBody.{SessionFrameBody}
use Rattle.amqp_session_performatives.specs.declared.session_frame.SessionFrameBody.TheVariants as session
use Rattle.amqp_endpoint_laws.specs.Reading.{Comes, Goes, Reader, Wired, begun_here, begun_there, behind}

-- where one stands who reads of one session so: so many Begins come on the channel before its own; it has begun; or it
-- is over there: its End came, or another's Begin
pub data Turn : Type 0 where
  Awaits : (others : ℕ) → Turn
  Within : Turn
  Behind : Turn

abbrev pub is_within : Turn → Bool
is_within Within = true
is_within turn = false

-- behind a Begin on the channel
abbrev pub begun_behind : Turn → Turn
begun_behind (Awaits zero) = Within
begun_behind (Awaits (suc others)) = Awaits others
begun_behind turn = Behind

-- behind a frame that goes on it
abbrev pub turn_sent : Turn → SessionFrameBody → Turn
turn_sent turn (session.Begin begin) = begun_behind turn
turn_sent turn it = turn

-- and behind one that comes on it
abbrev pub ended_behind : Turn → Turn
ended_behind Within = Behind
ended_behind turn = turn

abbrev pub turn_come : Turn → FrameBody → Turn
turn_come turn (body.Begin begin) = begun_behind turn
turn_come turn (body.End end) = ended_behind turn
turn_come turn it = turn

-- a frame that comes on it is the session's: its Begin, and whatever else a session says before it is over there
abbrev pub is_its : Turn → FrameBody → Bool
is_its turn body.Empty = false
is_its turn (body.Open opening) = false
is_its turn (body.Close closing) = false
is_its turn (body.Begin begin) = is_within (begun_behind turn)
is_its turn it = is_within turn

-- the frames of one session among those that go, and among those that come
abbrev pub sent_on : ℕ → Turn → List SessionFrame → List SessionFrame
sent_on channel turn [] = []
sent_on channel turn (frame ∷ frames) =
    let next = if frame.channel == channel then turn_sent turn frame.body else turn in
    (if frame.channel == channel && is_within next then frame ∷ [] else []) ++ sent_on channel next frames

abbrev pub come_on : ℕ → Turn → List Frame → List Frame
come_on channel turn [] = []
come_on channel turn (frame ∷ frames) =
    let next = if frame.channel == channel then turn_come turn frame.body else turn in
    (if frame.channel == channel && is_its turn frame.body then frame ∷ [] else []) ++ come_on channel next frames

-- the frames that go among those that pass, and those that come, in order
abbrev pub goings : List Wired → List SessionFrame
goings [] = []
goings (Goes frame ∷ later) = frame ∷ goings later
goings (Comes frame ∷ later) = goings later

abbrev pub comings : List Wired → List Frame
comings [] = []
comings (Comes frame ∷ later) = frame ∷ comings later
comings (Goes frame ∷ later) = comings later

-- how many Begins there are on a channel
abbrev pub one_sent : SessionFrameBody → ℕ
one_sent (session.Begin begin) = 1
one_sent it = 0

abbrev pub begins_sent : ℕ → List SessionFrame → ℕ
begins_sent channel [] = 0
begins_sent channel (frame ∷ frames) =
    (if frame.channel == channel then one_sent frame.body else 0) + begins_sent channel frames

abbrev pub one_come : FrameBody → ℕ
one_come (body.Begin begin) = 1
one_come it = 0

abbrev pub begins_come : ℕ → List Frame → ℕ
begins_come channel [] = 0
begins_come channel (frame ∷ frames) =
    (if frame.channel == channel then one_come frame.body else 0) + begins_come channel frames

-- on a channel no Begin comes as long as a session goes on there: between two Begins comes an End (part 2, 2.5.1,
-- 2.5.2)
abbrev pub is_open : Bool → FrameBody → Bool
is_open on (body.Begin begin) = true
is_open on (body.End end) = false
is_open on it = on

abbrev pub MayCome : Bool → FrameBody → Type 0
MayCome on (body.Begin begin) = on ≡ false
MayCome on it = Unit {0}

abbrev pub ByTurns : ℕ → Bool → List Frame → Type 0
ByTurns channel on [] = Unit {0}
ByTurns channel on (frame ∷ frames) =
    (frame.channel ≡ channel → MayCome on frame.body)
    × ByTurns channel (if frame.channel == channel then is_open on frame.body else on) frames

-- no Begin that comes is for this session
abbrev pub OtherBegin : ℕ → Reader → FrameBody → Type 0
OtherBegin number r (body.Begin begin) = begun_there r begin.remote_channel ≢ Some number
OtherBegin number r it = Unit {0}

abbrev pub BeginsOther : ℕ → Reader → Wired → Type 0
BeginsOther number r (Comes frame) = OtherBegin number r frame.body
BeginsOther number r (Goes frame) = Unit {0}

abbrev pub NoneBegins : ℕ → Reader → List Wired → Type 0
NoneBegins number r [] = Unit {0}
NoneBegins number r (it ∷ later) = BeginsOther number r it × NoneBegins number (behind r it) later

-- an own Begin that names a channel answers a session for which the peer asks there
abbrev pub AnswersAsked : Reader → SessionFrameBody → Type 0
AnswersAsked r (session.Begin begin) = IsSome (begun_here r begin.remote_channel)
AnswersAsked r it = Unit {0}

abbrev pub Answers : Reader → Wired → Type 0
Answers r (Comes frame) = Unit {0}
Answers r (Goes frame) = AnswersAsked r frame.body

abbrev pub AllAnswer : Reader → List Wired → Type 0
AllAnswer r [] = Unit {0}
AllAnswer r (it ∷ later) = Answers r it × AllAnswer (behind r it) later
