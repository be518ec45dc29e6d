-- The header of a frame as it is read.
use Rattle.std.proofs.Common.{◌≡◌, ◌≢◌, ℕ, ◌+◌, ◌*◌, ◌<◌, ◌≤◌, ◌^◌, zero, suc, List, [], ◌∷◌, ◌++◌, length, take, drop, get_or, refl, sym, ◌∙◌, ap, arith, Fits, w8, ◌-◌, length-append, length-drop, take-append-drop}
use Rattle.std.specs.Int.{w16, w32, to_be_bytes, from_be_bytes}
use Rattle.std.proofs.lemmas.List.{length-take-le, drop-drop}
use Rattle.std.proofs.lemmas.Nat.{be_bytes_2, be_bytes_4, from_be_bytes-to_be_bytes_4}
use Rattle.amqp_session_frames.specs.Header.{HasHeader, HasNoHeader}
use Rattle.amqp_session_frames.specs.Text.{Framed, IsOtherType}

each_of_four : (a b c d : ℕ) → a < 256 → b < 256 → c < 256 → d < 256 → (i : ℕ) → get_or (a ∷ b ∷ c ∷ d ∷ []) i 0 < 256
each_of_four a b c d ha hb hc hd zero = ha
each_of_four a b c d ha hb hc hd (suc zero) = hb
each_of_four a b c d ha hb hc hd (suc (suc zero)) = hc
each_of_four a b c d ha hb hc hd (suc (suc (suc zero))) = hd
each_of_four a b c d ha hb hc hd (suc (suc (suc (suc i)))) = omega arith

each_of_two : (a b : ℕ) → a < 256 → b < 256 → (i : ℕ) → get_or (a ∷ b ∷ []) i 0 < 256
each_of_two a b ha hb zero = ha
each_of_two a b ha hb (suc zero) = hb
each_of_two a b ha hb (suc (suc i)) = omega arith

-- the first eight bytes
eight_first : (bytes : List ℕ) → 8 ≤ length bytes → bytes ≡ get_or bytes 0 0 ∷ get_or bytes 1 0 ∷ get_or bytes 2 0 ∷ get_or bytes 3 0 ∷ get_or bytes 4 0 ∷ get_or bytes 5 0 ∷ get_or bytes 6 0 ∷ get_or bytes 7 0 ∷ drop 8 bytes
eight_first (a ∷ b ∷ c ∷ d ∷ e ∷ f ∷ g ∷ h ∷ rest) le = refl
eight_first (a ∷ b ∷ c ∷ d ∷ e ∷ f ∷ g ∷ []) le = absurd (omega arith)
eight_first (a ∷ b ∷ c ∷ d ∷ e ∷ f ∷ []) le = absurd (omega arith)
eight_first (a ∷ b ∷ c ∷ d ∷ e ∷ []) le = absurd (omega arith)
eight_first (a ∷ b ∷ c ∷ d ∷ []) le = absurd (omega arith)
eight_first (a ∷ b ∷ c ∷ []) le = absurd (omega arith)
eight_first (a ∷ b ∷ []) le = absurd (omega arith)
eight_first (a ∷ []) le = absurd (omega arith)
eight_first [] le = absurd (omega arith)

-- the type is AMQP's where it is no other
type_is : (bytes : List ℕ) → 8 ≤ length bytes → (IsOtherType bytes → ⊥) → get_or bytes 5 0 ≡ 0
type_is bytes le none = by_type (get_or bytes 5 0) (λ n. none (omega (arith, le), n))
  where
    by_type : (k : ℕ) → (k ≢ 0 → ⊥) → k ≡ 0
    by_type zero n = refl
    by_type (suc k) n = absurd (n (λ e. omega (arith, e)))

pub header_read : (bytes : List ℕ) (size channel : ℕ) → ((i : ℕ) → Fits w8 (get_or bytes i 0)) → 8 ≤ length bytes → (IsOtherType bytes → ⊥)
    → size ≡ get_or bytes 0 0 * 16777216 + get_or bytes 1 0 * 65536 + get_or bytes 2 0 * 256 + get_or bytes 3 0
    → channel ≡ get_or bytes 6 0 * 256 + get_or bytes 7 0
    → size < 2 ^ 32 → channel < 2 ^ 16 → size ≡ length bytes → 8 ≤ get_or bytes 4 0 * 4 → get_or bytes 4 0 * 4 ≤ length bytes
    → HasHeader bytes channel (get_or bytes 4 0 * 4)
header_read bytes size channel byte le none says numbers small narrow sized least fits =
    let doff : ℕ = get_or bytes 4 0 in
    let rest : List ℕ = drop 8 bytes in
    let extended : List ℕ = take (doff * 4 - 8) rest in
    let content : List ℕ = drop (doff * 4) bytes in
    let long : length rest ≡ length bytes - 8 = length-drop 8 bytes in
    let field : to_be_bytes w32 (length bytes) ≡ get_or bytes 0 0 ∷ get_or bytes 1 0 ∷ get_or bytes 2 0 ∷ get_or bytes 3 0 ∷ [] =
    be_bytes_4 (get_or bytes 0 0 ∷ get_or bytes 1 0 ∷ get_or bytes 2 0 ∷ get_or bytes 3 0 ∷ []) (length bytes) refl (each_of_four (get_or bytes 0 0) (get_or bytes 1 0) (get_or bytes 2 0) (get_or bytes 3 0) (byte 0).fits (byte 1).fits (byte 2).fits (byte 3).fits) (sym sized ∙ says) in
    let number : to_be_bytes w16 channel ≡ get_or bytes 6 0 ∷ get_or bytes 7 0 ∷ [] =
    be_bytes_2 (get_or bytes 6 0 ∷ get_or bytes 7 0 ∷ []) channel refl (each_of_two (get_or bytes 6 0) (get_or bytes 7 0) (byte 6).fits (byte 7).fits) numbers in
    let apart : rest ≡ extended ++ content = sym (take-append-drop (doff * 4 - 8) rest) ∙ ap (λ x. extended ++ x) (drop-drop (doff * 4 - 8) 8 bytes ∙ ap (λ n. drop n bytes) (let e : 8 + (doff * 4 - 8) ≡ doff * 4 = omega arith in e)) in
    record {
      extended = extended;
      layout = record {
        doff = doff;
        whole = eight_first bytes le
            ∙ (ap (λ (k : ℕ). get_or bytes 0 0 ∷ get_or bytes 1 0 ∷ get_or bytes 2 0 ∷ get_or bytes 3 0 ∷ doff ∷ k ∷ get_or bytes 6 0 ∷ get_or bytes 7 0 ∷ rest) (type_is bytes le none)
            ∙ (ap (λ (x : List ℕ). get_or bytes 0 0 ∷ get_or bytes 1 0 ∷ get_or bytes 2 0 ∷ get_or bytes 3 0 ∷ doff ∷ 0 ∷ get_or bytes 6 0 ∷ get_or bytes 7 0 ∷ x) apart
            ∙ (ap (λ (n : List ℕ). get_or bytes 0 0 ∷ get_or bytes 1 0 ∷ get_or bytes 2 0 ∷ get_or bytes 3 0 ∷ doff ∷ 0 ∷ (n ++ (extended ++ content))) (sym number)
            ∙ ap (λ (s : List ℕ). s ++ doff ∷ 0 ∷ (to_be_bytes w16 channel ++ (extended ++ content))) (sym field))));
        size = omega (arith, sized, small);
        offset = omega (arith, length-take-le (doff * 4 - 8) rest (omega (arith, long, fits)), least);
        channels = narrow;
      };
    }

-- what a layout says of the first bytes
record Says (bytes : List ℕ) : Type 0 where
  pub least : 8 ≤ length bytes
  pub size : get_or bytes 0 0 * 16777216 + get_or bytes 1 0 * 65536 + get_or bytes 2 0 * 256 + get_or bytes 3 0 ≡ length bytes
  pub start : 8 ≤ get_or bytes 4 0 * 4
  pub fits : get_or bytes 4 0 * 4 ≤ length bytes

layout_says : (bytes : List ℕ) (kind channel : ℕ) (extended content : List ℕ) → Framed bytes kind channel extended content → Says bytes
layout_says bytes kind channel extended content l =
    let doff : get_or bytes 4 0 ≡ l.doff = ap (λ (bs : List ℕ). get_or bs 4 0) l.whole in
    let sum : get_or bytes 0 0 * 16777216 + get_or bytes 1 0 * 65536 + get_or bytes 2 0 * 256 + get_or bytes 3 0 ≡ from_be_bytes w32 (to_be_bytes w32 (length bytes)) =
    ap (λ (bs : List ℕ). get_or bs 0 0 * 16777216 + get_or bs 1 0 * 65536 + get_or bs 2 0 * 256 + get_or bs 3 0) l.whole in
    let long : length bytes ≡ 8 + length (extended ++ content) = omega (arith, ap length l.whole, length-append (to_be_bytes w32 (length bytes)) (l.doff ∷ kind ∷ (to_be_bytes w16 channel ++ (extended ++ content))), length-append (to_be_bytes w16 channel) (extended ++ content)) in
    record {
      least = omega (arith, long);
      size = sum ∙ from_be_bytes-to_be_bytes_4 (length bytes) l.size;
      start = omega (arith, doff, l.offset);
      fits = omega (arith, doff, l.offset, long, length-append extended content);
    }

pub too_short : (bytes : List ℕ) → length bytes < 8 → HasNoHeader bytes
too_short bytes lt = record { none = λ c e x l. omega (arith, lt, (layout_says bytes 0 c e x l).least) }

pub wrong_size : (bytes : List ℕ) (size : ℕ) → size ≡ get_or bytes 0 0 * 16777216 + get_or bytes 1 0 * 65536 + get_or bytes 2 0 * 256 + get_or bytes 3 0 → size ≢ length bytes → HasNoHeader bytes
wrong_size bytes size says n = record { none = λ c e x l. n (says ∙ (layout_says bytes 0 c e x l).size) }

pub start_too_small : (bytes : List ℕ) → get_or bytes 4 0 * 4 < 8 → HasNoHeader bytes
start_too_small bytes lt = record { none = λ c e x l. omega (arith, lt, (layout_says bytes 0 c e x l).start) }

pub start_too_large : (bytes : List ℕ) → length bytes < get_or bytes 4 0 * 4 → HasNoHeader bytes
start_too_large bytes lt = record { none = λ c e x l. omega (arith, lt, (layout_says bytes 0 c e x l).fits) }

pub ruleset layouts = (header_read, too_short, wrong_size, start_too_small, start_too_large)
