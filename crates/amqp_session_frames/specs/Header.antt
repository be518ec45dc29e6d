-- The header of a frame, as it is read: part 2, 2.3.1.
use Rattle.std.specs.Prelude.{ℕ, List, drop}
use Rattle.amqp_session_frames.specs.declared.error.Error.{Error}
use Rattle.amqp_session_frames.specs.declared.error.Error.TheVariants.{DecodeError, NotImplemented, TooLarge, Memory}
use Rattle.amqp_session_frames.specs.Text.{Framed, IsOtherType}

-- the bytes are laid out as a frame of AMQP with this channel, and its body starts here
pub record HasHeader (bytes : List ℕ) (channel start : ℕ) : Type 0 where
  pub extended : List ℕ
  pub layout : Framed bytes 0 channel extended (drop start bytes)

-- they are not laid out so, whatever channel and body
pub record HasNoHeader (bytes : List ℕ) : Type 0 where
  pub none : (channel : ℕ) (extended content : List ℕ) → Framed bytes 0 channel extended content → ⊥

-- why no header is read
abbrev pub HeaderRefused : List ℕ → Error → Type 0
HeaderRefused bytes NotImplemented = IsOtherType bytes
HeaderRefused bytes DecodeError = (IsOtherType bytes → ⊥) × HasNoHeader bytes
HeaderRefused bytes Memory = ⊥
HeaderRefused bytes TooLarge = ⊥
