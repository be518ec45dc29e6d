-- Which sessions of two ends belong together: by a channel, and a count of the Begins on it (part 2, 2.5.1).
use Rattle.std.specs.Prelude.{◌≡◌, ℕ, false, List, ◌∷◌, ◌++◌, Some}
use Rattle.amqp_session_performatives.specs.declared.begin.Begin.{Begin}
use Rattle.amqp_session_performatives.specs.declared.session_frame.SessionFrame.{SessionFrame}
use Rattle.amqp_session_performatives.specs.declared.session_frame.SessionFrameBody.TheVariants as session
use Rattle.amqp_session_frames.specs.declared.frame.Frame.{Frame}
use Rattle.amqp_session_frames.specs.declared.frame.FrameBody.TheVariants as body
use Rattle.amqp_endpoint_laws.specs.Channel.{AllAnswer, ByTurns, NoneBegins, begins_come, begins_sent, comings, goings}
use Rattle.amqp_endpoint_laws.specs.Reading.{Comes, Goes, Wired, begun_here, begun_there, behind, behind_all}
use Rattle.amqp_endpoint_laws.specs.Reading.{nothing_read}

-- among the frames of a connection the own Begin of the session with this number goes on this channel, behind so many
-- others there
pub record BeginsOn (number channel others : ℕ) (frames : List Wired) : Type 0 where
  pub first : List Wired
  pub frame : SessionFrame
  pub later : List Wired
  pub are : frames ≡ first ++ Goes frame ∷ later
  pub on : frame.channel ≡ channel
  pub begin : Begin
  pub is : frame.body ≡ session.Begin begin
  pub its : begun_here (behind_all nothing_read first) begin.remote_channel ≡ Some number
  pub counted : begins_sent channel (goings first) ≡ others

-- and the peer's Begin comes for the session with this number on this channel, behind so many others there. The peer
-- begins the session once, and begins none on the channel as long as one goes on there; and own Begins that name a
-- channel answer a session for which the peer asks there
pub record BegunOn (number channel others : ℕ) (frames : List Wired) : Type 0 where
  pub first : List Wired
  pub frame : Frame
  pub later : List Wired
  pub are : frames ≡ first ++ Comes frame ∷ later
  pub on : frame.channel ≡ channel
  pub begin : Begin
  pub is : frame.body ≡ body.Begin begin
  pub its : begun_there (behind_all nothing_read first) begin.remote_channel ≡ Some number
  pub counted : begins_come channel (comings first) ≡ others
  pub before : NoneBegins number nothing_read first
  pub behind_it : NoneBegins number (behind (behind_all nothing_read first) (Comes frame)) later
  pub by_turns : ByTurns channel false (comings frames)
  pub answers : AllAnswer nothing_read frames
