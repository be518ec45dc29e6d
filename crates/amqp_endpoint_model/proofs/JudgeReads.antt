-- What frames that were read say of the limit of a judge of the wire.
use Rattle.std.proofs.Common.{◌≡◌, ℕ, ◌≤◌, List, [], ◌∷◌, ◌++◌, length, refl, sym, ◌∙◌, ap, arith, subst, inl, inr, Option, append_assoc, length-append}
use Rattle.std.specs.Prelude.{All}
use Rattle.std.proofs.lemmas.Bool.Decides.{nat_tests}
use Rattle.std.proofs.lemmas.List.Elements.{All-tail, All-head}
use Rattle.amqp_session_performatives.specs.declared.open.Open.{Open as OpenFields}
use Rattle.amqp_session_frames.specs.declared.frame.Frame.{Frame}
use Rattle.amqp_session_frames.specs.declared.frame.FrameBody.{FrameBody}
use Rattle.amqp_session_frames.specs.declared.frame.FrameBody.TheVariants.{Open}
use Rattle.amqp_session_frames.specs.Cutting.{IsPiece, ReadsAs, joined}
use Rattle.amqp_session_frames.specs.Text.{FrameText}
use Rattle.amqp_session_frames.proofs.CuttingLaws.{same_fronts}
use Rattle.amqp_session_frames.proofs.FrameLaws.{frame_piece, frame_same}
use Rattle.amqp_endpoint_model.specs.State.{protocol_header, limit_of}
use Rattle.amqp_endpoint_model.specs.Step.{Admits}
use Rattle.amqp_endpoint_model.specs.History.{agreed, IsOpen, JudgedBy, judge_limit}
use Rattle.amqp_endpoint_model.proofs.Texts.{same_piece}
use Rattle.amqp_endpoint_model.proofs.Stepped.{body_limit, first_limit}

-- the judge's limit is no less than 512
agreed-least : (n : ℕ) → 512 ≤ agreed n
agreed-least n = grind (arith, nat_tests)

agreed-more : (n : ℕ) → n ≤ agreed n
agreed-more n = grind (arith, nat_tests)

judged-least : (pieces : List (List ℕ)) (limit : ℕ) → JudgedBy pieces limit → 512 ≤ limit
judged-least [] limit is = omega arith
judged-least (piece ∷ pieces) limit (inl (o, opens, is)) = omega (arith, agreed-least o.max_frame_size)
judged-least (piece ∷ pieces) limit (inr (other, j)) = judged-least pieces limit j

pub limit-least : (bytes : List ℕ) (limit : ℕ) → judge_limit bytes limit → 512 ≤ limit
limit-least bytes limit (inl (short, is)) = omega arith
limit-least bytes limit (inr (header, pieces, rest, cut, judged)) = judged-least pieces limit judged

-- the Open of a piece is the body of its frame
open-body : (piece : List ℕ) (f : Frame) (o : OpenFields) → FrameText piece f → IsOpen piece o → f.body ≡ Open o
open-body piece f o text opens =
    let g : Frame = record { channel = opens.channel; body = Open o } in
    ap (λ (x : Frame). x.body) (frame_same piece f g text opens.text)

open-piece : (piece : List ℕ) (f : Frame) (o : OpenFields) → f.body ≡ Open o → FrameText piece f → IsOpen piece o
open-piece piece f o is text =
    let P : Frame → Type 0 = λ x. FrameText piece x in
    let same : f ≡ record { channel = f.channel; body = Open o }
    = ap (λ (b : FrameBody). record { channel = f.channel; body = b }) is in
    record { channel = f.channel; text = subst P same text }

same-open : (o p : OpenFields) → Open o ≡ Open p → o ≡ p
same-open o p e = cc

-- the limit that a frame in front says, or those behind it
frame-limit : (piece : List ℕ) (pieces : List (List ℕ)) (f : Frame) (body : FrameBody) (later : Option ℕ) (limit : ℕ)
    → f.body ≡ body → FrameText piece f → JudgedBy (piece ∷ pieces) limit
    → (JudgedBy pieces limit → limit_of later ≤ limit) → limit_of (body_limit body later) ≤ limit
frame-limit piece pieces f (Open o) later limit is text (inl (p, opens, agrees)) onward =
    let same : o ≡ p = same-open o p (sym is ∙ open-body piece f p text opens) in
    let said : o.max_frame_size ≡ p.max_frame_size = ap (λ (x : OpenFields). x.max_frame_size) same in
    omega (arith, agrees, said, agreed-more p.max_frame_size)
frame-limit piece pieces f (Open o) later limit is text (inr (none, judged)) onward =
    absurd (none o (open-piece piece f o is text))
frame-limit piece pieces f body later limit is text (inl (p, opens, agrees)) onward =
    let other : body ≡ Open p = sym is ∙ open-body piece f p text opens in
    absurd cc
frame-limit piece pieces f body later limit is text (inr (none, judged)) onward = onward judged

-- what was read of bytes says no more than the judge reads there
pieces-limit : (most : ℕ) (bytes : List ℕ) (frames : List Frame) (left : List ℕ) (pieces : List (List ℕ))
    (rest : List ℕ) (limit : ℕ) → ReadsAs (Admits most) bytes frames left → bytes ≡ joined pieces ++ rest
    → All IsPiece pieces
    → ((piece more : List ℕ) → rest ≡ piece ++ more → IsPiece piece → ⊥) → JudgedBy pieces limit
    → limit_of (first_limit frames) ≤ limit
pieces-limit most bytes [] left pieces rest limit read whole each none judged = judged-least pieces limit judged
pieces-limit most bytes (f ∷ fs) left [] rest limit (piece, more, is, one, read) whole each none judged =
    absurd (none piece more (sym whole ∙ is) (frame_piece piece f one.text))
pieces-limit most bytes (f ∷ fs) left (p ∷ ps) rest limit (piece, more, is, one, read) whole each none judged =
    let split : piece ++ more ≡ p ++ (joined ps ++ rest) = sym is ∙ whole ∙ append_assoc p (joined ps) rest in
    let both : (piece ≡ p) × (more ≡ joined ps ++ rest)
    = same_piece piece p more (joined ps ++ rest) (frame_piece piece f one.text) (All-head IsPiece p ps each) split in
    let P : List ℕ → Type 0 = λ x. FrameText x f in
    frame-limit p ps f f.body (first_limit fs) limit refl (subst P both.0 one.text) judged
    (λ later. pieces-limit most more fs left ps rest limit read both.1 (All-tail IsPiece p ps each) none later)

pub read-limit : (most : ℕ) (fed body : List ℕ) (frames : List Frame) (left : List ℕ) (limit : ℕ)
    → fed ≡ protocol_header ++ body → ReadsAs (Admits most) body frames left → judge_limit fed limit
    → limit_of (first_limit frames) ≤ limit
read-limit most fed body frames left limit is read (inl (short, none)) =
    let n : length fed ≡ length (protocol_header ++ body) = ap length is in
    absurd (omega (arith, n, short, length-append protocol_header body))
read-limit most fed body frames left limit is read (inr (header, pieces, rest, cut, judged)) =
    let bodies : (protocol_header ≡ header) × (body ≡ joined pieces ++ rest)
    = same_fronts protocol_header header body (joined pieces ++ rest) (sym cut.eight) (sym is ∙ cut.whole) in
    pieces-limit most body frames left pieces rest limit read bodies.1 cut.each cut.none_more judged
