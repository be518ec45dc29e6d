-- What waits to be pulled.
use Rattle.std.specs.Prelude.{◌≡◌, ℕ, ◌+◌, ◌≤◌, ◌<◌, List, ◌∷◌, ◌++◌, length, map, take, drop, true, All}
use Rattle.amqp_session_performatives.specs.declared.session_frame.SessionFrame.{SessionFrame}
use Rattle.amqp_session_frames.specs.Cutting.{joined}
use Rattle.amqp_endpoint_model.specs.State.{State, fits, Waiting, the_header, the_frame, text_of, waiting_of}
use Rattle.amqp_endpoint_core.specs.declared.queued.Content.{Content}
use Rattle.amqp_endpoint_core.specs.declared.queued.Content.TheVariants.{Header, Frame}
pub use Rattle.amqp_session_frames.specs.Appending.{AppendedIn}

-- what a clause sees of it
abbrev pub said_by : Content → Waiting
said_by Header = the_header
said_by (Frame frame) = the_frame frame

-- what sessions sent waits as frames
abbrev pub frames_waiting : List SessionFrame → List Waiting
frames_waiting frames = map waiting_of frames

-- it is within the limit of written frames (part 2, 2.4.1)
abbrev pub IsWithin : ℕ → Waiting → Type 0
IsWithin limit the_header = Unit {0}
IsWithin limit (the_frame frame) = fits limit frame ≡ true

-- all that waits is
pub record AllWithin (limit : ℕ) (waiting : List Waiting) : Type 0 where
  pub each : All (IsWithin limit) waiting

-- this was queued first
pub record IsFirst (queue : List Waiting) (first : Waiting) : Type 0 where
  pub others : List Waiting
  pub is : queue ≡ first ∷ others

-- the bytes of these, one behind the other
abbrev pub texts_of : List Waiting → List ℕ
texts_of waiting = joined (map text_of waiting)

-- so many that were queued first are no more than `most` bytes together, and with one more, if there is one, they are
pub record Fills (most : ℕ) (queue : List Waiting) (count : ℕ) : Type 0 where
  pub there : count ≤ length queue
  pub short : length (texts_of (take count queue)) ≤ most
  pub longest : count < length queue → most < length (texts_of (take (count + 1) queue))

-- so many that wait first are no more than `most` bytes together, but for so many, and with one more, if there is one,
-- they are; their bytes are appended to these
pub record FillsUp (most : ℕ) (waiting : List Waiting) (count room : ℕ) (bytes bytes_new : List ℕ) : Type 0 where
  pub there : count ≤ length waiting
  pub left : length (texts_of (take count waiting)) + room ≡ most
  pub longest : count < length waiting → most < length (texts_of (take (count + 1) waiting))
  pub appended : bytes_new ≡ bytes ++ texts_of (take count waiting)

-- so many of what is queued are, and where that is all of it, so many of what sessions sent
pub record FillsBoth (most : ℕ) (queue : List Waiting) (out : List SessionFrame) (queued sent : ℕ)
    (bytes bytes_new : List ℕ) : Type 0 where
  pub there : queued ≤ length queue
  pub others : sent ≤ length out
  pub behind : 0 < sent → queued ≡ length queue
  pub fills : Fills most (queue ++ frames_waiting out) (queued + sent)
  pub appended : bytes_new ≡ bytes ++ texts_of (take (queued + sent) (queue ++ frames_waiting out))

-- so many that were queued first are taken out, and their bytes are appended to these
pub record PullsInto {S : Type 0} (most : ℕ) (old : State S) (bytes : List ℕ) (count : ℕ) (new : State S)
    (bytes_new : List ℕ) : Type 0 where
  pub fills : Fills most old.queue count
  pub appended : bytes_new ≡ bytes ++ texts_of (take count old.queue)
  pub after : new ≡ record old { queue = drop count old.queue }
