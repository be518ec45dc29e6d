-- A frame behind bytes that are there, with its size in front: part 2, 2.3.
use Rattle.std.specs.Prelude.{◌≡◌, ◌≤◌, ◌<◌, ◌+◌, ◌^◌, ℕ, List, ◌∷◌, ◌++◌, length, Option, Some, None}
use Rattle.std.specs.Int.{w16, to_be_bytes}
use Rattle.amqp_session_frames.specs.Cutting.{with_size}
use Rattle.amqp_session_frames.specs.Text.{IsOver, frame_text}
use Rattle.amqp_session_frames.specs.declared.error.Error.{Error}
use Rattle.amqp_session_frames.specs.declared.error.Error.TheVariants.{DecodeError, NotImplemented, TooLarge, Memory}
use Rattle.amqp_session_frames.specs.declared.frame.Frame.{Frame}

-- this text is appended where it is within so many bytes: so many more are left then
abbrev pub AppendedIn : ℕ → List ℕ → Option ℕ → List ℕ → List ℕ → Type 0
AppendedIn room text (Some left) bytes bytes_new = (length text + left ≡ room) × (bytes_new ≡ bytes ++ text)
AppendedIn room text None bytes bytes_new = (room < length text) × (bytes_new ≡ bytes)

-- The frame has a text (2.3), which without its size is within the limit, and it is appended where it is within so many
-- bytes.
pub record IsAppended (limit : ℕ) (f : Frame) (room : ℕ) (left : Option ℕ) (bytes bytes_new : List ℕ) : Type 0 where
  pub text : List ℕ
  pub is : frame_text f ≡ Some text
  pub within : length text ≤ limit + 4
  pub appended : AppendedIn room text left bytes bytes_new

-- why a frame is not appended, where it may have so many bytes without its size
abbrev pub NotAppended : ℕ → Frame → Error → Type 0
NotAppended limit f TooLarge = IsOver (limit + 4) (frame_text f)
NotAppended limit f Memory = Unit {0}
NotAppended limit f DecodeError = ⊥
NotAppended limit f NotImplemented = ⊥

-- a frame's bytes: its size, its header without an extension (2.3.1), its performative, and its payload (2.3.2)
abbrev pub laid_out : ℕ → List ℕ → List ℕ → List ℕ
laid_out channel performative payload = with_size (2 ∷ 0 ∷ (to_be_bytes w16 channel ++ (performative ++ payload)))

-- the performative has a text, and with it and so much payload a frame has so many bytes, which a size field can say
pub record HasWholeSize (text : Option (List ℕ)) (payload size : ℕ) : Type 0 where
  pub bytes : List ℕ
  pub is : text ≡ Some bytes
  pub long : size ≡ 8 + length bytes + payload
  pub short : size < 2 ^ 32

-- a frame with this performative and payload stands behind the bytes
pub record IsLaidOut (channel : ℕ) (text : Option (List ℕ)) (payload bytes bytes_new : List ℕ) : Type 0 where
  pub performative : List ℕ
  pub is : text ≡ Some performative
  pub behind : bytes_new ≡ bytes ++ laid_out channel performative payload

-- A frame with this performative and payload has room within the limit, and it is appended where it is within so many
-- bytes.
pub record IsLaidIn (limit channel : ℕ) (text : Option (List ℕ)) (payload : List ℕ) (room : ℕ) (left : Option ℕ)
    (bytes bytes_new : List ℕ) : Type 0 where
  pub performative : List ℕ
  pub is : text ≡ Some performative
  pub within : 8 + length performative + length payload ≤ limit + 4
  pub short : 8 + length performative + length payload < 2 ^ 32
  pub appended : AppendedIn room (laid_out channel performative payload) left bytes bytes_new

-- the performative and the payload stand behind the bytes
pub record IsBody (text : Option (List ℕ)) (payload bytes bytes_new : List ℕ) : Type 0 where
  pub performative : List ℕ
  pub is : text ≡ Some performative
  pub behind : bytes_new ≡ bytes ++ (performative ++ payload)

-- the bytes stand in front of what is there now
pub record StandInFront (bytes bytes_new : List ℕ) : Type 0 where
  pub more : List ℕ
  pub is : bytes_new ≡ bytes ++ more
