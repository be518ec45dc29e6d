-- What is shown of the frame that bytes are.
use Rattle.std.proofs.Common.{◌≡◌, ℕ, List, Option, Some, None}
use Rattle.amqp_session_frames.specs.Text.{FrameText, NotRead, performative_of, performative_text}
use Rattle.amqp_session_frames.specs.declared.error.Error.{Error}
use Rattle.amqp_session_frames.specs.declared.error.Error.TheVariants.{DecodeError, NotImplemented, TooLarge, Memory}
use Rattle.amqp_session_frames.specs.declared.frame.Frame.{Frame}
use Rattle.amqp_trace.specs.declared.frames.SeenFrame.{SeenFrame}
use Rattle.amqp_trace.specs.Seen.{IsSeen, NotSeen, NotWritten, IsUnwritten, Shows}

-- a frame that was read is shown
pub seen : (bytes : List ℕ) (f : Frame) (s : SeenFrame) → FrameText bytes f → Shows f s → IsSeen bytes s
seen bytes f s text shown = record { frame = f; text = text; shown = shown }

-- what a decoder refuses isn't shown
pub not_read : (bytes : List ℕ) (e : Error) → NotRead bytes e → NotSeen bytes e
not_read bytes DecodeError is = is
not_read bytes NotImplemented is = is
not_read bytes TooLarge is = absurd is
not_read bytes Memory is = is

-- nor is a frame that can't be written
pub not_written : (bytes : List ℕ) (f : Frame) (e : Error) → FrameText bytes f → NotWritten (performative_text (performative_of f.body)) e → NotSeen bytes e
not_written bytes f DecodeError text is = absurd is
not_written bytes f NotImplemented text is = absurd is
not_written bytes f TooLarge text is = record { frame = f; text = text; unwritten = is }
not_written bytes f Memory text is = tt

pub ruleset seeing = (seen, not_read, not_written)
