-- A transfer that is too long for one frame goes in several: part 2, 2.6.14 and 2.7.5.
use Rattle.std.specs.Prelude.{◌≡◌, ℕ, ◌+◌, ◌-◌, ◌≤◌, ◌^◌, ◌≢◌, min, Bool, true, List, [], ◌∷◌, ◌++◌, length, map, All}
use Rattle.std.specs.Prelude.{Some, ◌⊎◌}
use Rattle.amqp_session_performatives.specs.Continuation.{continuation}
use Rattle.amqp_session_performatives.specs.declared.transfer.Transfer.{Transfer}
use Rattle.amqp_session_frames.specs.Cutting.{with_size}
use Rattle.amqp_session_frames.specs.Text.{IsOver, frame_text}
use Rattle.amqp_session_frames.specs.declared.error.Error.{Error}
use Rattle.amqp_session_frames.specs.declared.error.Error.TheVariants.{DecodeError, NotImplemented, TooLarge, Memory}
use Rattle.amqp_session_frames.specs.declared.frame.Frame.{Frame}
use Rattle.amqp_session_frames.specs.declared.frame.FrameBody.{FrameBody}
use Rattle.amqp_session_frames.specs.declared.frame.FrameBody.TheVariants.{Transfer as TransferBody}

-- what the transfer says, but with this of whether more comes
abbrev pub saying : Transfer → Bool → Transfer
saying t more = record t { more = more }

-- a frame with the transfer and so much of the payload, behind which more comes or doesn't
abbrev pub part : ℕ → Transfer → Bool → List ℕ → Frame
part channel t more payload = record { channel = channel; body = TransferBody (saying t more) payload }

-- the most bytes that a piece may have, without its size, which four bytes say
abbrev pub room : ℕ → ℕ
room limit = min limit (2 ^ 32 - 5)

-- a frame is as long as it may be: no byte of payload more has room
abbrev pub IsFull : ℕ → Frame → Type 0
IsFull limit f = (text : List ℕ) × (frame_text f ≡ Some text) × (length text ≡ 4 + room limit)

-- a part with this front of the payload, which isn't empty: it is full, and says that more comes
pub record IsFullPart (limit channel : ℕ) (t : Transfer) (front : List ℕ) (f : Frame) : Type 0 where
  pub some : front ≢ []
  pub is : f ≡ part channel t true front
  pub full : IsFull limit f

-- the last part, with the rest of the payload, which isn't empty: it says whether more comes as the transfer does
pub record IsLastPart (channel : ℕ) (t : Transfer) (more : Bool) (rest : List ℕ) (f : Frame) : Type 0 where
  pub some : rest ≢ []
  pub is : f ≡ part channel t more rest

-- The frames are the parts of a transfer with this payload: full ones, each with the front of what is left of it, and a
-- last one with the rest. Those behind the first say what a continuation says: the handle, and whether more comes
-- (2.7.5).
abbrev pub AreParts : ℕ → ℕ → Transfer → Bool → List ℕ → List Frame → Type 0
AreParts limit channel t more payload [] = ⊥
AreParts limit channel t more payload (f ∷ []) = IsLastPart channel t more payload f
AreParts limit channel t more payload (f ∷ g ∷ fs) =
    (front : List ℕ) × (rest : List ℕ) × (payload ≡ front ++ rest)
    × IsFullPart limit channel t front f
    × AreParts limit channel (continuation t) more rest (g ∷ fs)

-- These pieces, behind the others, are the texts of the parts of a transfer, and none is longer than it may be.
pub record Continues (limit channel : ℕ) (t : Transfer) (more : Bool) (payload : List ℕ)
    (old new : List (List ℕ)) : Type 0 where
  pub pieces : List (List ℕ)
  pub parts : List Frame
  pub behind : new ≡ old ++ pieces
  pub texts : map (λ p. Some (with_size p)) pieces ≡ map frame_text parts
  pub are : AreParts limit channel t more payload parts
  pub within : All (λ p. length p ≤ limit) pieces

-- the frames that a frame goes in: itself, where it fits; a transfer that doesn't goes in parts, two at least
abbrev pub GoesIn : ℕ → Frame → List Frame → Type 0
GoesIn limit f parts =
    (parts ≡ f ∷ [])
    ⊎ ((t : Transfer) × (payload : List ℕ) × (f.body ≡ TransferBody t payload)
    × IsOver (limit + 4) (frame_text f) × (2 ≤ length parts)
    × AreParts limit f.channel t t.more payload parts)

-- The pieces, with their sizes, are the texts of the frames that this frame goes in.
pub record IsWritten (limit : ℕ) (f : Frame) (pieces : List (List ℕ)) : Type 0 where
  pub parts : List Frame
  pub texts : map (λ p. Some (with_size p)) pieces ≡ map frame_text parts
  pub goes : GoesIn limit f parts

-- a transfer can't go in parts either: its first part has no room for a byte of payload
abbrev pub HasNoParts : ℕ → ℕ → FrameBody → Type 0
HasNoParts limit channel (TransferBody t payload) = IsOver (limit + 4) (frame_text (part channel t true (0 ∷ [])))
HasNoParts limit channel body = Unit {0}

-- why a frame is not written, where a piece may have so many bytes without its size
abbrev pub NotWritten : ℕ → Frame → Error → Type 0
NotWritten limit f TooLarge = IsOver (limit + 4) (frame_text f) × HasNoParts limit f.channel f.body
NotWritten limit f Memory = Unit {0}
NotWritten limit f DecodeError = ⊥
NotWritten limit f NotImplemented = ⊥
