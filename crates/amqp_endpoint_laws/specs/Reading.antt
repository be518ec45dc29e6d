-- What one who reads the frames that pass on a connection finds of its sessions, by their channels and by what Begins
-- and Ends say alone (part 2, 2.5.1, 2.5.2, 2.7.2, 2.7.8).
use Rattle.std.specs.Prelude.{◌≡◌, ℕ, suc, ◌==◌, List, [], ◌∷◌, ◌++◌, Bool, false, Option, Some, None, if◌then◌else◌}
use Rattle.amqp_session_frames.specs.declared.frame.Frame.{Frame}
use Rattle.amqp_session_frames.specs.declared.frame.FrameBody.{FrameBody}
use Rattle.amqp_session_frames.specs.declared.frame.FrameBody.TheVariants as body
use Rattle.amqp_session_performatives.specs.declared.session_frame.SessionFrame.{SessionFrame}
use Rattle.amqp_session_performatives.specs.declared.session_frame.SessionFrameBody.{SessionFrameBody}
use Rattle.amqp_session_performatives.specs.declared.session_frame.SessionFrameBody.TheVariants as session
use Rattle.amqp_endpoint_tables.specs.State.{first_of}

-- a frame that passes at one end, which takes and queues them in an order. Of those that it queues the connection's own
-- are left aside
pub data Wired : Type 0 where
  -- it comes from the peer
  Comes : (frame : Frame) → Wired
  -- a session's goes to the peer
  Goes : (frame : SessionFrame) → Wired

-- sessions by channel
abbrev pub ByChannel : Type 0
ByChannel = ℕ → Option ℕ

-- what is known behind some frames. A session's number is how many were asked for before it, at whichever end
pub record Reader : Type 0 where
  -- how many were asked for, each by a Begin that names no channel
  pub begun : ℕ
  -- the session whose Begin went on an own channel last
  pub speaks : ByChannel
  -- the one that has an own channel, up to the peer's End
  pub own : ByChannel
  -- the session to which a channel of the peer's was led, by a Begin that names a channel
  pub led : ByChannel
  -- the session for which the peer asks on a channel, before it is answered
  pub asked : ByChannel

abbrev pub nothing_read : Reader
nothing_read =
    record {
      begun = 0;
      speaks = λ channel. None;
      own = λ channel. None;
      led = λ channel. None;
      asked = λ channel. None;
    }

-- another session on a channel, or none
abbrev pub with_at : ByChannel → ℕ → Option ℕ → ByChannel
with_at sessions channel it other = if other == channel then it else sessions other

-- no channel is a session's any more
abbrev pub unless_it : ℕ → Option ℕ → Option ℕ
unless_it number None = None
unless_it number (Some other) = if other == number then None else Some other

abbrev pub without : ℕ → ByChannel → ByChannel
without number sessions channel = unless_it number (sessions channel)

-- the session that a frame on a channel of the peer's is for, if it is no Begin
abbrev pub reaches : Reader → ℕ → Option ℕ
reaches r channel = first_of (r.led channel) (r.asked channel)

-- the own Begin on a channel asks for a session, or answers the one for which the peer asks on the channel that it
-- names: that leads to it from then on
abbrev pub own_begins : Option ℕ → ℕ → Reader → Reader
own_begins None channel r =
    record r {
      begun = suc r.begun;
      speaks = with_at r.speaks channel (Some r.begun);
      own = with_at r.own channel (Some r.begun);
    }
own_begins (Some named) channel r =
    record r {
      speaks = with_at r.speaks channel (r.asked named);
      own = with_at r.own channel (r.asked named);
      led = with_at r.led named (r.asked named);
      asked = with_at r.asked named None;
    }

-- the peer's Begin on a channel asks for a session, or leads the channel to the one that has the channel that it names
abbrev pub peer_begins : Option ℕ → ℕ → Reader → Reader
peer_begins None channel r = record r { begun = suc r.begun; asked = with_at r.asked channel (Some r.begun) }
peer_begins (Some named) channel r = record r { led = with_at r.led channel (r.own named) }

-- the peer's End takes a session's channels back, at both ends
abbrev pub peer_ends : Option ℕ → Reader → Reader
peer_ends None r = r
peer_ends (Some number) r =
    record r { own = without number r.own; led = without number r.led; asked = without number r.asked }

-- behind a frame on a channel
abbrev pub behind_coming : ℕ → FrameBody → Reader → Reader
behind_coming channel (body.Begin begin) r = peer_begins begin.remote_channel channel r
behind_coming channel (body.End end) r = peer_ends (reaches r channel) r
behind_coming channel it r = r

abbrev pub behind_going : ℕ → SessionFrameBody → Reader → Reader
behind_going channel (session.Begin begin) r = own_begins begin.remote_channel channel r
behind_going channel it r = r

abbrev pub behind : Reader → Wired → Reader
behind r (Comes frame) = behind_coming frame.channel frame.body r
behind r (Goes frame) = behind_going frame.channel frame.body r

abbrev pub behind_all : Reader → List Wired → Reader
behind_all r [] = r
behind_all r (it ∷ later) = behind_all (behind r it) later

-- the session of a Begin: the next, or the one that it names
abbrev pub begun_here : Reader → Option ℕ → Option ℕ
begun_here r None = Some r.begun
begun_here r (Some named) = r.asked named

abbrev pub begun_there : Reader → Option ℕ → Option ℕ
begun_there r None = Some r.begun
begun_there r (Some named) = r.own named

-- the session of a frame that comes on a channel, if it is a session's
abbrev pub comes_for : Reader → ℕ → FrameBody → Option ℕ
comes_for r channel body.Empty = None
comes_for r channel (body.Open opening) = None
comes_for r channel (body.Close closing) = None
comes_for r channel (body.Begin begin) = begun_there r begin.remote_channel
comes_for r channel it = reaches r channel

-- and of one that goes
abbrev pub goes_for : Reader → ℕ → SessionFrameBody → Option ℕ
goes_for r channel (session.Begin begin) = begun_here r begin.remote_channel
goes_for r channel it = r.speaks channel

abbrev pub whose : Reader → Wired → Option ℕ
whose r (Comes frame) = comes_for r frame.channel frame.body
whose r (Goes frame) = goes_for r frame.channel frame.body

abbrev pub is_of : Option ℕ → ℕ → Bool
is_of None number = false
is_of (Some other) number = other == number

-- the frames of one session among those that pass, in order
abbrev pub read_on : ℕ → Reader → List Wired → List Wired
read_on number r [] = []
read_on number r (it ∷ later) =
    (if is_of (whose r it) number then it ∷ [] else []) ++ read_on number (behind r it) later

-- those of all frames of a connection
abbrev pub read_of : ℕ → List Wired → List Wired
read_of number frames = read_on number nothing_read frames

-- a session that has an own channel is the one that speaks on it
abbrev pub Speaks : Reader → Type 0
Speaks r = (channel number : ℕ) → r.own channel ≡ Some number → r.speaks channel ≡ Some number
