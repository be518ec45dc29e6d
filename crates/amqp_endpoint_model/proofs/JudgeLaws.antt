-- The judge of a wire says one limit.
use Rattle.std.proofs.Common.{◌≡◌, ℕ, zero, suc, ◌+◌, ◌≤◌, List, [], ◌∷◌, ◌++◌, length, take, drop, refl, sym, ◌∙◌, ap, arith, subst, inl, inr, ◌⊎◌, append_assoc, length-append, length-drop, take-append-drop}
use Rattle.std.specs.Prelude.{All}
use Rattle.std.proofs.lemmas.Bool.{cases_lt}
use Rattle.std.proofs.lemmas.List.{length-take-le}
use Rattle.std.proofs.lemmas.List.Elements.{All-nil, All-cons}
use Rattle.amqp_session_performatives.specs.declared.open.Open.{Open as OpenFields}
use Rattle.amqp_session_frames.specs.declared.frame.Frame.{Frame}
use Rattle.amqp_session_frames.specs.declared.frame.FrameBody.TheVariants.{Open}
use Rattle.amqp_session_frames.specs.Cutting.{said_size, IsPiece, joined, Cut}
use Rattle.amqp_session_frames.proofs.CuttingLaws.{said_size-append, cut_same}
use Rattle.amqp_session_frames.proofs.FrameLaws.{frame_same}
use Rattle.amqp_endpoint_model.specs.History.{agreed, IsOpen, JudgedBy, judge_limit}

open-one : (piece : List ℕ) (o p : OpenFields) → IsOpen piece o → IsOpen piece p → o ≡ p
open-one piece o p a b =
    let f : Frame = record { channel = a.channel; body = Open o } in
    let g : Frame = record { channel = b.channel; body = Open p } in
    let same : f ≡ g = frame_same piece f g a.text b.text in
    let bodies : Open o ≡ Open p = ap (λ (x : Frame). x.body) same in
    cc

judged-one : (pieces : List (List ℕ)) (a b : ℕ) → JudgedBy pieces a → JudgedBy pieces b → a ≡ b
judged-one [] a b x y = x ∙ sym y
judged-one (piece ∷ pieces) a b (inl (o, opens, is)) (inl (p, opens2, is2)) = is ∙ ap (λ (x : OpenFields). agreed x.max_frame_size) (open-one piece o p opens opens2) ∙ sym is2
judged-one (piece ∷ pieces) a b (inl (o, opens, is)) (inr (none, j)) = absurd (none o opens)
judged-one (piece ∷ pieces) a b (inr (none, j)) (inl (o, opens, is)) = absurd (none o opens)
judged-one (piece ∷ pieces) a b (inr (none, j)) (inr (none2, k)) = judged-one pieces a b j k

cut-long : (bytes header : List ℕ) (pieces : List (List ℕ)) (rest : List ℕ) → Cut bytes header pieces rest → 8 ≤ length bytes
cut-long bytes header pieces rest c = omega (arith, c.eight, ap length c.whole, length-append header (joined pieces ++ rest))

-- there are not two limits
pub judge_limit-one : (bytes : List ℕ) (a b : ℕ) → judge_limit bytes a → judge_limit bytes b → a ≡ b
judge_limit-one bytes a b (inl (short, is)) (inl (short2, is2)) = is ∙ sym is2
judge_limit-one bytes a b (inl (short, is)) (inr (header, pieces, rest, cut, j)) = absurd (omega (arith, short, cut-long bytes header pieces rest cut))
judge_limit-one bytes a b (inr (header, pieces, rest, cut, j)) (inl (short, is)) = absurd (omega (arith, short, cut-long bytes header pieces rest cut))
judge_limit-one bytes a b (inr (header, pieces, rest, cut, j)) (inr (header2, pieces2, rest2, cut2, k)) =
    let (headers, same, rests) = cut_same bytes header header2 pieces pieces2 rest rest2 cut cut2 in
    let P : List (List ℕ) → Type 0 = λ x. JudgedBy x b in
    judged-one pieces a b j (subst P (sym same) k)

-- pieces in front of bytes
record Pieced (bytes : List ℕ) : Type 0 where
  pieces : List (List ℕ)
  rest : List ℕ
  whole : bytes ≡ joined pieces ++ rest
  each : All IsPiece pieces
  none_more : (piece more : List ℕ) → rest ≡ piece ++ more → IsPiece piece → ⊥

-- bytes begin with a piece exactly where their first four say a size that is there, and not under 8
record Begins (bytes : List ℕ) : Type 0 where
  four : 4 ≤ length bytes
  least : 8 ≤ said_size bytes
  there : said_size bytes ≤ length bytes

begins : (bytes piece more : List ℕ) → bytes ≡ piece ++ more → IsPiece piece → Begins bytes
begins bytes piece more e p =
    let n : length bytes ≡ length piece + length more = ap length e ∙ length-append piece more in
    let s : said_size bytes ≡ said_size piece = ap (λ (x : List ℕ). said_size x) e ∙ said_size-append piece more (omega (arith, p.least)) in
    record { four = omega (arith, n, p.least); least = omega (arith, s, p.least, p.size); there = omega (arith, s, n, p.size) }

begins_or_not : (bytes : List ℕ) → Begins bytes ⊎ (Begins bytes → ⊥)
begins_or_not bytes =
    elim (cases_lt (length bytes) 4) as (λ x. Begins bytes ⊎ (Begins bytes → ⊥)) [
      | inl short ↦ inr (λ b. omega (arith, short, b.four))
      | inr four ↦ elim (cases_lt (said_size bytes) 8) as (λ x. Begins bytes ⊎ (Begins bytes → ⊥)) [
        | inl small ↦ inr (λ b. omega (arith, small, b.least))
        | inr least ↦ elim (cases_lt (length bytes) (said_size bytes)) as (λ x. Begins bytes ⊎ (Begins bytes → ⊥)) [
          | inl part ↦ inr (λ b. omega (arith, part, b.there))
          | inr there ↦ inl (record { four = four; least = least; there = there })
        ]
      ]
    ]

first_piece : (bytes : List ℕ) → Begins bytes → IsPiece (take (said_size bytes) bytes)
first_piece bytes b =
    let n : length (take (said_size bytes) bytes) ≡ said_size bytes = length-take-le (said_size bytes) bytes b.there in
    let s : said_size (take (said_size bytes) bytes ++ drop (said_size bytes) bytes) ≡ said_size (take (said_size bytes) bytes) = said_size-append (take (said_size bytes) bytes) (drop (said_size bytes) bytes) (omega (arith, n, b.least)) in
    let t : said_size (take (said_size bytes) bytes ++ drop (said_size bytes) bytes) ≡ said_size bytes = ap (λ (x : List ℕ). said_size x) (take-append-drop (said_size bytes) bytes) in
    record { least = omega (arith, n, b.least); size = sym s ∙ t ∙ sym n }

pieced-more : (bytes : List ℕ) → Begins bytes → Pieced (drop (said_size bytes) bytes) → Pieced bytes
pieced-more bytes b p = record {
  pieces = take (said_size bytes) bytes ∷ p.pieces;
  rest = p.rest;
  whole = sym (take-append-drop (said_size bytes) bytes) ∙ ap (λ x. take (said_size bytes) bytes ++ x) p.whole ∙ sym (append_assoc (take (said_size bytes) bytes) (joined p.pieces) p.rest);
  each = All-cons IsPiece (take (said_size bytes) bytes) p.pieces (first_piece bytes b) p.each;
  none_more = p.none_more;
}

pieced : (n : ℕ) (bytes : List ℕ) → length bytes ≤ n → Pieced bytes
pieced zero bytes le = record { pieces = []; rest = bytes; whole = refl; each = All-nil IsPiece; none_more = λ piece more e p. omega (arith, le, (begins bytes piece more e p).four) }
pieced (suc n) bytes le =
    elim (begins_or_not bytes) as (λ x. Pieced bytes) [
      | inl b ↦ pieced-more bytes b (pieced n (drop (said_size bytes) bytes) (omega (arith, le, b.four, b.least, length-drop (said_size bytes) bytes)))
      | inr none ↦ record { pieces = []; rest = bytes; whole = refl; each = All-nil IsPiece; none_more = λ piece more e p. none (begins bytes piece more e p) }
    ]

-- there is no none, either
judged-some : (pieces : List (List ℕ)) → ((limit : ℕ) → JudgedBy pieces limit → ⊥) → ⊥
judged-some [] none = none 512 refl
judged-some (piece ∷ pieces) none = judged-some pieces (λ limit j. none limit (inr (λ o opens. none (agreed o.max_frame_size) (inl (o, opens, refl)), j)))

judge-cut : (bytes : List ℕ) → 8 ≤ length bytes → ((limit : ℕ) → judge_limit bytes limit → ⊥) → Pieced (drop 8 bytes) → ⊥
judge-cut bytes long none p =
    let cut : Cut bytes (take 8 bytes) p.pieces p.rest = record {
      whole = sym (take-append-drop 8 bytes) ∙ ap (λ x. take 8 bytes ++ x) p.whole;
      eight = length-take-le 8 bytes long;
      each = p.each;
      none_more = p.none_more;
    } in
    judged-some p.pieces (λ limit j. none limit (inr (take 8 bytes, p.pieces, p.rest, cut, j)))

-- there is a limit: that there is none can't be
pub judge_limit-some : (bytes : List ℕ) → ((limit : ℕ) → judge_limit bytes limit → ⊥) → ⊥
judge_limit-some bytes none =
    elim (cases_lt (length bytes) 8) as (λ x. ⊥) [
      | inl short ↦ none 512 (inl (short, refl))
      | inr long ↦ judge-cut bytes long none (pieced (length (drop 8 bytes)) (drop 8 bytes) (omega arith))
    ]
