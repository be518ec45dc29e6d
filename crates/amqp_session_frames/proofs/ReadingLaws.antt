-- Streams of frames: the laws of streams of pieces, of frames.
use Rattle.std.proofs.Common.{◌≡◌, ℕ, List, [], ◌∷◌, ◌++◌, take, drop, Some}
use Rattle.amqp_session_frames.specs.declared.frame.Frame.{Frame}
use Rattle.amqp_session_frames.specs.Cutting.{IsPartial}
use Rattle.amqp_session_frames.specs.Text.{FrameText, Reads, frame_text, texts, AllWithinCaps}
use Rattle.amqp_session_frames.proofs.CuttingLaws.{AllRead, reads_more, reads-append, reads-take, reads_unique, reads_front, written-append, written_reads, reads_written, partial_written}
use Rattle.amqp_session_frames.proofs.FrameLaws.{frames_lawful, frame_written}

all_read : (fs : List Frame) → AllWithinCaps fs → AllRead FrameText frame_text fs
all_read [] w = tt
all_read (f ∷ fs) w = (λ bytes e. frame_written f bytes w.0 w.1 e, all_read fs w.2)

pub Reads-more : (bytes : List ℕ) (fs : List Frame) (f : Frame) (front more rest : List ℕ) → Reads bytes fs rest → rest ≡ front ++ more → FrameText front f → Reads bytes (fs ++ f ∷ []) more
Reads-more = reads_more FrameText

pub Reads-append : (bytes : List ℕ) (a b : List Frame) (mid rest more : List ℕ) → Reads bytes a mid → Reads (mid ++ more) b rest → Reads (bytes ++ more) (a ++ b) rest
Reads-append = reads-append FrameText

pub Reads-take : (bytes : List ℕ) (fs : List Frame) (rest : List ℕ) (n : ℕ) → Reads bytes fs rest → (left : List ℕ) × Reads bytes (take n fs) left × Reads left (drop n fs) rest
Reads-take = reads-take FrameText

pub Reads-unique : (bytes : List ℕ) (a b : List Frame) (l m : List ℕ) → Reads bytes a l → Reads bytes b m → IsPartial l → IsPartial m → (a ≡ b) × (l ≡ m)
Reads-unique = reads_unique FrameText frames_lawful

pub Reads-front : (bytes more : List ℕ) (taken all : List Frame) (rest left : List ℕ) → Reads bytes taken rest → Reads (bytes ++ more) all left → IsPartial left → (others : List Frame) × (all ≡ taken ++ others) × Reads (rest ++ more) others left
Reads-front = reads_front FrameText frames_lawful

pub texts-append : (a b : List Frame) (x y : List ℕ) → texts a ≡ Some x → texts b ≡ Some y → texts (a ++ b) ≡ Some (x ++ y)
texts-append = written-append frame_text

pub texts_read : (fs : List Frame) (bytes : List ℕ) → AllWithinCaps fs → texts fs ≡ Some bytes → Reads bytes fs []
texts_read fs bytes w e = written_reads frame_text FrameText fs bytes (all_read fs w) e

pub Reads-texts : (bytes more : List ℕ) (taken sent : List Frame) (rest : List ℕ) → AllWithinCaps sent → Reads bytes taken rest → texts sent ≡ Some (bytes ++ more) → (others : List Frame) × (sent ≡ taken ++ others) × (texts others ≡ Some (rest ++ more))
Reads-texts bytes more taken sent rest w r e = reads_written frame_text FrameText frames_lawful bytes more taken sent rest (all_read sent w) r e

pub partial-texts : (rest : List ℕ) (others : List Frame) → AllWithinCaps others → IsPartial rest → texts others ≡ Some rest → others ≡ []
partial-texts rest others w p e = partial_written frame_text FrameText frames_lawful rest others (all_read others w) p e
