-- Frames that are written, and frames that are refused.
use Rattle.std.proofs.Common.{◌≡◌, ℕ, ◌+◌, ◌<◌, ◌≤◌, true, List, [], ◌∷◌, ◌++◌, length, Some, refl, sym, ◌∙◌, ap, subst, arith}
use Rattle.std.specs.Prelude.{All}
use Rattle.std.specs.Int.{w16, to_be_bytes}
use Rattle.serde_amqp_item.specs.Canon.{canon}
use Rattle.amqp_session_performatives.specs.Performative.{performative_item}
use Rattle.amqp_session_performatives.specs.Transfer.{transfer_item}
use Rattle.amqp_session_performatives.specs.declared.performative.Performative.{Performative}
use Rattle.amqp_session_performatives.specs.declared.transfer.Transfer.{Transfer}
use Rattle.amqp_session_frames.specs.Parts.{saying, part, room, IsWritten, NotWritten, HasNoParts}
use Rattle.amqp_session_frames.specs.Sizes.{transfer_text, HasSize, IsWhole, NotSized, NotWhole, Overflows, PartsRefused}
use Rattle.amqp_session_frames.specs.Text.{performative_of, payload_of}
use Rattle.amqp_session_frames.specs.declared.error.Error.{Error}
use Rattle.amqp_session_frames.specs.declared.error.Error.TheVariants.{DecodeError, NotImplemented, TooLarge, Memory}
use Rattle.amqp_session_frames.specs.declared.frame.Frame.{Frame}
use Rattle.amqp_session_frames.specs.declared.frame.FrameBody.{FrameBody}
use Rattle.amqp_session_frames.specs.declared.frame.FrameBody.TheVariants.{Empty, Transfer as TransferBody}
use Rattle.amqp_session_frames.proofs.Dividing.{more_within, part_over}
use Rattle.amqp_session_frames.proofs.Writing.{IsPieceOf, empty_piece, over_performative, over_sized, over_sum, over_text, whole_within, whole_written}

-- ---- a transfer

-- a transfer without a text, or with too long a one, has no parts
too_long_more : (t : Transfer) → NotSized (transfer_text t) → NotSized (transfer_text (saying t true))
too_long_more t n = record { none = λ bytes e. let w = more_within t t.more bytes e in omega (arith, n.none w.bytes w.is, w.short) }

sized_text : (t : Transfer) → NotSized (canon (transfer_item t)) → NotSized (transfer_text t)
unfolding transfer_text
sized_text t n = n

text_sized : (t : Transfer) → NotSized (transfer_text t) → NotSized (canon (transfer_item t))
unfolding transfer_text
text_sized t n = n

pub too_long : (limit channel : ℕ) (t : Transfer) (payload : List ℕ) → NotSized (canon (transfer_item t)) → NotWritten limit (record { channel = channel; body = TransferBody t payload }) TooLarge
too_long limit channel t payload n = (
  over_sized (record { channel = channel; body = TransferBody t payload }) (limit + 4) n,
  over_sized (part channel t true (0 ∷ [])) (limit + 4) (text_sized (saying t true) (too_long_more t (sized_text t n))),
)

sized_as : (t : Transfer) (size : ℕ) → HasSize (canon (transfer_item t)) size → HasSize (transfer_text t) size
unfolding transfer_text
sized_as t size h = h

pub overflows : (limit size payload : ℕ) (t : Transfer) → HasSize (canon (transfer_item t)) size → room limit < size + payload + 4 → Overflows limit (transfer_text t) payload
overflows limit size payload t h lt = over_sum limit size payload (transfer_text t) (sized_as t size h) lt

pub parts_refused : (limit channel : ℕ) (t : Transfer) (payload : List ℕ) (e : Error) → Overflows limit (transfer_text t) (length payload) → PartsRefused limit t e → NotWritten limit (record { channel = channel; body = TransferBody t payload }) e
parts_refused limit channel t payload TooLarge o r = (
  over_text limit (record { channel = channel; body = TransferBody t payload }) (part_over limit (length payload) t o),
  over_text limit (part channel t true (0 ∷ [])) (part_over limit 1 (saying t true) r),
)
parts_refused limit channel t payload Memory o r = tt
parts_refused limit channel t payload DecodeError o r = absurd r
parts_refused limit channel t payload NotImplemented o r = absurd r

-- ---- a frame that is never divided

pub undivided_written : (limit : ℕ) (f : Frame) (b : FrameBody) (p : Performative) (pieces : List (List ℕ)) → f.body ≡ b → performative_of b ≡ Some p → payload_of b ≡ [] → IsWhole limit f.channel (canon (performative_item p)) [] pieces → IsWritten limit f pieces
undivided_written limit f b p pieces is said none w =
    whole_written limit f p pieces (ap performative_of is ∙ said) (subst (λ (l : List ℕ). IsWhole limit f.channel (canon (performative_item p)) l pieces) (sym (ap payload_of is ∙ none)) w)

pub undivided_within : (limit : ℕ) (f : Frame) (b : FrameBody) (p : Performative) (pieces : List (List ℕ)) → f.body ≡ b → performative_of b ≡ Some p → payload_of b ≡ [] → IsWhole limit f.channel (canon (performative_item p)) [] pieces → All (λ q. length q ≤ limit) pieces
undivided_within limit f b p pieces is said none w =
    whole_within limit f p pieces (ap performative_of is ∙ said) (subst (λ (l : List ℕ). IsWhole limit f.channel (canon (performative_item p)) l pieces) (sym (ap payload_of is ∙ none)) w)

over_refused : (limit : ℕ) (f : Frame) (b : FrameBody) (p : Performative) (e : Error) → f.body ≡ b → performative_of b ≡ Some p → HasNoParts limit f.channel b → NotWhole limit (canon (performative_item p)) (payload_of b) e → NotWritten limit f e
over_refused limit f b p TooLarge is said none n = (
  over_performative limit f p (ap performative_of is ∙ said) (subst (λ (l : List ℕ). Overflows limit (canon (performative_item p)) (length l)) (sym (ap payload_of is)) n),
  subst (λ (c : FrameBody). HasNoParts limit f.channel c) (sym is) none,
)
over_refused limit f b p Memory is said none n = tt
over_refused limit f b p DecodeError is said none n = absurd n
over_refused limit f b p NotImplemented is said none n = absurd n

pub undivided_refused : (limit : ℕ) (f : Frame) (b : FrameBody) (p : Performative) (e : Error) → f.body ≡ b → performative_of b ≡ Some p → payload_of b ≡ [] → HasNoParts limit f.channel b → NotWhole limit (canon (performative_item p)) [] e → NotWritten limit f e
undivided_refused limit f b p e is said empty none n = over_refused limit f b p e is said none (subst (λ (l : List ℕ). NotWhole limit (canon (performative_item p)) l e) (sym empty) n)

-- ---- an empty frame

pub empty_is : (limit channel : ℕ) (head payload piece : List ℕ) → 4 ≤ limit → head ≡ 2 ∷ 0 ∷ to_be_bytes w16 channel → payload ≡ [] → piece ≡ head ++ payload → IsPieceOf limit (record { channel = channel; body = Empty }) piece
empty_is limit channel head payload piece least h p is = empty_piece limit (record { channel = channel; body = Empty }) head payload piece (omega (arith, least)) refl h p is

-- ---- a frame by its body

pub frame_of : (f : Frame) (b : FrameBody) → f.body ≡ b → record { channel = f.channel; body = b } ≡ f
frame_of f b is = ap (λ (c : FrameBody). record { channel = f.channel; body = c }) (sym is)
