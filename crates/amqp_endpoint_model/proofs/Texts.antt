-- Texts of frames, and pieces in front of bytes.
use Rattle.std.proofs.Common.{◌≡◌, ℕ, List, ◌++◌, ap, arith}
use Rattle.std.specs.Prelude.{slice_index}
use Rattle.amqp_session_frames.specs.declared.frame.Frame.{Frame}
use Rattle.amqp_session_frames.specs.Cutting.{IsSized, IsPiece}
use Rattle.amqp_session_frames.specs.Text.{FrameText, IsOtherType}
use Rattle.amqp_session_frames.proofs.CuttingLaws.{sized_same}

is_sized : (piece : List ℕ) → IsPiece piece → IsSized piece
is_sized piece p = record { least = omega (arith, p.least); size = p.size }

-- what begins with a piece begins with no other one
pub same_piece : (p q x y : List ℕ) → IsPiece p → IsPiece q → p ++ x ≡ q ++ y → (p ≡ q) × (x ≡ y)
same_piece p q x y a b e = sized_same p q x y (is_sized p a) (is_sized q b) e

-- the text of a frame has the type of frames
pub frame_type : (bytes : List ℕ) (f : Frame) → FrameText bytes f → IsOtherType bytes → ⊥
frame_type bytes f t (six, other) = other (ap (λ (x : List ℕ). slice_index x 5) t.layout.whole)
