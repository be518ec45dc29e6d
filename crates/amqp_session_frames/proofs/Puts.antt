-- Items are put together by hand.
use Rattle.std.proofs.Common.{◌≡◌, ℕ, ◌+◌, ◌-◌, ◌≤◌, List, [], ◌∷◌, ◌++◌, length, take, drop, sym, ◌∙◌, ap, subst, arith, length-append, length-drop, append_assoc, take-append-drop, Option, Some}
use Rattle.std.specs.Prelude.{slice_range}
use Rattle.std.proofs.lemmas.List.{length-take-le, take-take, take_at, drop_at}
use borrow.Rule.Slice.PartMut.{put_mid}
use Rattle.std.proofs.lemmas.Slice.{between_is, take-put_mid, drop-put_mid}
use Rattle.amqp_session_frames.specs.Items.{Holds, Puts, short_record}

-- ---- bytes

pub put_at : (old new bytes : List ℕ) (at end : ℕ) → end ≡ at + length bytes → end ≤ length old
    → new ≡ put_mid at (end - at) old bytes → Puts bytes at end old new
put_at old new bytes at end long within is =
    record { front = ap (take end) is ∙ take-put_mid at (end - at) old bytes end long (omega (arith, long, within)); long = long }

pub left_behind : (old new bytes : List ℕ) (at end : ℕ) → end ≡ at + length bytes → end ≤ length old
    → new ≡ put_mid at (end - at) old bytes → drop end new ≡ drop end old
left_behind old new bytes at end long within is =
    ap (drop end) is ∙ drop-put_mid at (end - at) old bytes end (omega (arith, long)) (omega (arith, long, within)) (omega (arith, long))

pub ruleset putting = (put_at, left_behind)

-- one behind the other
pub both_put : (a b old mid new : List ℕ) (at middle end : ℕ) → Puts a at middle old mid → Puts b middle end mid new → Puts (a ++ b) at end old new
both_put a b old mid new at middle end one two =
    record {
      front = two.front ∙ ap (λ (l : List ℕ). l ++ b) one.front ∙ append_assoc (take at old) a b;
      long = omega (arith, one.long, two.long, length-append a b);
    }

-- at a place in front of what was put there, which stays
pub put_over : (head rest base mid new : List ℕ) (at middle end : ℕ) → Puts rest middle end base mid → Puts head at middle mid new
    → drop middle new ≡ drop middle mid → middle ≤ length base → Puts (head ++ rest) at end base new
put_over head rest base mid new at middle end r h behind within =
    let order : middle ≤ end = omega (arith, r.long) in
    let below : at ≤ middle = omega (arith, h.long) in
    let left : drop middle (take end mid) ≡ rest =
    ap (drop middle) r.front ∙ drop_at (take middle base) rest middle (length-take-le middle base within) in
    let tail : drop middle (take end new) ≡ rest =
    sym (between_is new middle end) ∙ ap (take (end - middle)) behind ∙ between_is mid middle end ∙ left in
    let front : take middle (take end new) ≡ take at mid ++ head = take-take middle end new order ∙ h.front in
    let same : take at mid ≡ take at base =
    sym (take-take at end mid (omega (arith, order, below)))
    ∙ ap (take at) r.front
    ∙ sym (take-take at middle (take middle base ++ rest) below)
    ∙ ap (take at) (take_at (take middle base) rest middle (length-take-le middle base within))
    ∙ take-take at middle base below in
    record {
      front = sym (take-append-drop middle (take end new))
          ∙ ap (λ (l : List ℕ). l ++ drop middle (take end new)) front
          ∙ ap (λ (l : List ℕ). (take at mid ++ head) ++ l) tail
          ∙ ap (λ (l : List ℕ). (l ++ head) ++ rest) same
          ∙ append_assoc (take at base) head rest;
      long = omega (arith, r.long, h.long, length-append head rest);
    }

-- what was put at a place stands there
pub put_is : (text old new : List ℕ) (at end : ℕ) → Puts text at end old new → at ≤ length old → slice_range new at end ≡ text
put_is text old new at end p within =
    between_is new at end ∙ ap (drop at) p.front ∙ drop_at (take at old) text at (length-take-le at old within)

-- what stands at a place
pub stands_at : (bytes : List ℕ) (at end : ℕ) → at ≤ end → end ≤ length bytes → Puts (slice_range bytes at end) at end bytes bytes
stands_at bytes at end order within =
    let is : slice_range bytes at end ≡ drop at (take end bytes) = between_is bytes at end in
    let first : take at (take end bytes) ≡ take at bytes = take-take at end bytes order in
    let long : length (take end bytes) ≡ end = length-take-le end bytes within in
    record {
      front = sym (take-append-drop at (take end bytes)) ∙ ap (λ (l : List ℕ). l ++ drop at (take end bytes)) first
          ∙ ap (λ (l : List ℕ). take at bytes ++ l) (sym is);
      long = omega (arith, order, ap length is, length-drop at (take end bytes), long);
    }

pub record_put : (code count size middle end : ℕ) (old new : List ℕ) → 14 ≤ end → end ≤ length old → size ≡ end - 14 + 1
    → Puts (0 ∷ 0x53 ∷ code ∷ 0xc0 ∷ size ∷ count ∷ []) 8 middle old new → drop middle new ≡ drop middle old
    → Puts (short_record code count (slice_range old 14 end)) 8 end old new
record_put code count size middle end old new order within sized head behind =
    let at : middle ≡ 14 = head.long in
    let fields : List ℕ = slice_range old 14 end in
    let stands : Puts fields 14 end old old = stands_at old 14 end order within in
    let same : size ≡ length fields + 1 = omega (arith, sized, order, stands.long) in
    let over : Puts (0 ∷ 0x53 ∷ code ∷ 0xc0 ∷ size ∷ count ∷ fields) 8 end old new =
    put_over (0 ∷ 0x53 ∷ code ∷ 0xc0 ∷ size ∷ count ∷ []) fields old old new 8 middle end
    (subst (λ (k : ℕ). Puts fields k end old old) (sym at) stands) head behind (omega (arith, at, order, within)) in
    record {
      front = over.front ∙ ap (λ (k : ℕ). take 8 old ++ (0 ∷ 0x53 ∷ code ∷ 0xc0 ∷ k ∷ count ∷ fields)) same;
      long = over.long;
    }

-- a record whose fields were put before
pub record_held : (text : Option (List ℕ)) (code count end : ℕ) (fields old mid new : List ℕ) → text ≡ Some (short_record code count fields)
    → Puts fields 14 end old mid → Puts (short_record code count (slice_range mid 14 end)) 8 end mid new
    → 14 ≤ length old → 8 ≤ length mid → end ≤ length new → Holds text end new
record_held text code count end fields old mid new is put whole one two three =
    let same : slice_range mid 14 end ≡ fields = put_is fields old mid 14 end put one in
    record {
      from = omega (arith, whole.long);
      within = three;
      is = is ∙ ap (λ (l : List ℕ). Some (short_record code count l)) (sym same)
          ∙ ap (λ (l : List ℕ). Some l) (sym (put_is (short_record code count (slice_range mid 14 end)) mid new 8 end whole two));
    }
