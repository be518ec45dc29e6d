-- What is done in a conversation, as one reads it off the frames that pass by that (part 2, 2.5.1, 2.5.2).
use Rattle.std.specs.Prelude.{◌≡◌, ℕ, List, [], ◌∷◌, Some, map}
use Rattle.amqp_session_frames.specs.declared.frame.FrameBody.{FrameBody}
use Rattle.amqp_session_frames.specs.declared.frame.FrameBody.TheVariants as body
use Rattle.amqp_session_performatives.specs.declared.session_frame.SessionFrame.{SessionFrame}
use Rattle.amqp_session_performatives.specs.declared.session_frame.SessionFrameBody.{SessionFrameBody}
use Rattle.amqp_session_performatives.specs.declared.session_frame.SessionFrameBody.TheVariants as session
use Rattle.amqp_endpoint_tables.specs.State.{State}
use Rattle.amqp_endpoint_tables.specs.Steps.{History, Act}
use Rattle.amqp_endpoint_laws.specs.Beside.{OnConnection, behind_steps, from}
use Rattle.amqp_endpoint_laws.specs.Reading.{Comes, Goes, Reader, Wired, behind, behind_all, whose}

-- frames that are queued, one behind the other
abbrev pub goes : List SessionFrame → List Wired
goes frames = map Goes frames

-- a frame that comes on a channel
abbrev pub comes : ℕ → FrameBody → Wired
comes channel it = Comes (record { channel = channel; body = it })

-- what is neither Begin nor End
abbrev pub IsWithin : FrameBody → Type 0
IsWithin (body.Begin begin) = ⊥
IsWithin (body.End end) = ⊥
IsWithin it = Unit {0}

-- what is for the session that its channel reaches
abbrev pub IsForReached : FrameBody → Type 0
IsForReached body.Empty = ⊥
IsForReached (body.Open opening) = ⊥
IsForReached (body.Close closing) = ⊥
IsForReached (body.Begin begin) = ⊥
IsForReached it = Unit {0}

abbrev pub IsNoBegin : SessionFrameBody → Type 0
IsNoBegin (session.Begin begin) = ⊥
IsNoBegin it = Unit {0}

-- no Begin is among frames
abbrev pub NoBegins : List SessionFrame → Type 0
NoBegins [] = Unit {0}
NoBegins (frame ∷ frames) = IsNoBegin frame.body × NoBegins frames

-- frames of a session that has begun: they are on its channel, and no Begin is among them
abbrev pub AreOf : ℕ → List SessionFrame → Type 0
AreOf channel [] = Unit {0}
AreOf channel (frame ∷ frames) = (frame.channel ≡ channel) × IsNoBegin frame.body × AreOf channel frames

-- the sessions went on by such steps as are read off these frames
pub record Follows {A S : Type 0} (frames : List Wired) (old new : State A S) : Type 0 where
  pub steps : List (Act A S)
  pub history : History old steps new
  pub goes_on : OnConnection steps
  pub reads : (r : Reader) → behind_all r frames ≡ behind_steps r steps

-- one frame after the other is read as the session's with this number here, where there were so many before
abbrev pub AreFor : ℕ → ℕ → Reader → List Wired → Type 0
AreFor base number r [] = Unit {0}
AreFor base number r (it ∷ later) = (from base (whose r it) ≡ Some number) × AreFor base number (behind r it) later
