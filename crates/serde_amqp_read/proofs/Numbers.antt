-- Bytes and number fields that were taken.
use Rattle.std.proofs.Common.{◌≡◌, ◌≢◌, ℕ, ◌+◌, ◌-◌, ◌<◌, ◌≤◌, ◌^◌, List, [], ◌∷◌, ◌++◌, length, take, drop, take-append-drop, length-take-le, length-drop, take_all, ◌-◌, Bool, true, false, Some, is_some, sym, ◌∙◌, ap, refl, arith, append_assoc, length-append}
use Rattle.std.specs.Prelude.{None, if◌then◌else◌}
use Rattle.std.specs.Int.{w32, to_be_bytes}
use Rattle.std.specs.Str.{is_utf8}
use Rattle.serde_amqp_item.specs.declared.codes.EncodingCodes.{EncodingCodes}
use Rattle.serde_amqp_item.specs.declared.codes.EncodingCodes.TheVariants.{Char, Str8, Str32, Sym8, Sym32}
use Rattle.serde_amqp_item.specs.declared.codes.Category.TheVariants.{Fixed}
use Rattle.serde_amqp_item.specs.Item.{string, symbol}
use Rattle.serde_amqp_item.specs.Wire.{Width, one_byte, four_bytes, field_width, Row, row_at, category_of}
use Rattle.serde_amqp_item.proofs.Forms.{append_same}
use Rattle.serde_amqp_read.specs.Reads.{with_more}
use Rattle.serde_amqp_read.specs.Pending.{Place, Moves, Taken, TookField, TookContent, NoContent, is_read}

-- what stands in a buffer and is left, before and behind
pub taken_bytes : (old new : Place) (count : ℕ) → new.taken ++ new.rest ≡ old.taken ++ old.rest → length new.taken ≡ length old.taken + count → new.consumed ≡ with_more old.consumed count → new.ending ≡ old.ending → new.ahead ≤ old.ahead - count → Taken count old new
taken_bytes old new count e l c q f =
    let at = length old.taken in
    let front = drop at new.taken in
    let parts : take at new.taken ++ front ≡ new.taken = take-append-drop at new.taken in
    let within : at ≤ length new.taken = omega (arith, l) in
    let same = append_same (take at new.taken) old.taken (front ++ new.rest) old.rest (length-take-le at new.taken within)
    (sym (append_assoc (take at new.taken) front new.rest) ∙ (ap (λ (s : List ℕ). s ++ new.rest) parts ∙ e)) in
    let joined : new.taken ≡ old.taken ++ front = sym parts ∙ ap (λ (s : List ℕ). s ++ front) same.0 in
    let long : length front ≡ count = omega (arith, ap length joined, length-append old.taken front, l) in
    record {
      front = front;
      moves = record { split = sym same.1; joined = joined; counted = omega (arith, c, long); ending = q; ahead = omega (arith, f, long) };
      long = long;
    }

pub one_field : (old new : Place) (b k : ℕ) → Moves old new (b ∷ []) → b < 256 → k ≡ 1 → (w : Width) → field_width w ≡ k → TookField w old new b
one_field old new b k m l e one_byte f = record { moves = m; fits = l }
one_field old new b k m l e four_bytes f = absurd (omega (arith, e, f))

pub four_field : (old new : Place) (n k : ℕ) → Moves old new (to_be_bytes w32 n) → n < 2 ^ 32 → k ≢ 1 → (w : Width) → field_width w ≡ k → TookField w old new n
four_field old new n k m l e one_byte f = absurd (e (sym f))
four_field old new n k m l e four_bytes f = record { moves = m; fits = l }

pub no_byte : (rest : List ℕ) (k : ℕ) → rest ≡ [] → k ≡ 1 → (w : Width) → field_width w ≡ k → length rest < field_width w
no_byte rest k n e one_byte f = omega (arith, ap length n)
no_byte rest k n e four_bytes f = omega (arith, ap length n)

pub no_four : (rest : List ℕ) (k : ℕ) → length rest < 4 → k ≢ 1 → (w : Width) → field_width w ≡ k → length rest < field_width w
no_four rest k l e one_byte f = absurd (e (sym f))
no_four rest k l e four_bytes f = l

drop_front : (a b : List ℕ) → drop (length a) (a ++ b) ≡ b
drop_front [] b = refl
drop_front (x ∷ a) b = drop_front a b

-- the content is what was put behind
behind_is : (old new : Place) (front : List ℕ) → Moves old new front → drop (length old.taken) new.taken ≡ front
behind_is old new front m = ap (drop (length old.taken)) m.joined ∙ drop_front old.taken front

pub content_is : (old new : Place) (count at : ℕ) (bytes : List ℕ) (t : Taken count old new) → at ≡ length old.taken → bytes ≡ new.taken → take (length bytes - at) (drop at bytes) ≡ t.front
content_is old new count at bytes t a b =
    let long : length (drop at bytes) ≤ length bytes - at = omega (arith, length-drop at bytes) in
    take_all (length bytes - at) (drop at bytes) long ∙ (ap (λ (n : ℕ). drop n bytes) a ∙ (ap (drop (length old.taken)) b ∙ behind_is old new t.front t.moves))

pub content_taken : (r : Row) (count : ℕ) (old new : Place) (valid : Bool) → Taken count old new → valid ≡ is_read r (drop (length old.taken) new.taken) → valid ≡ true → TookContent r count old new
content_taken r count old new valid t v e = record {
  front = t.front;
  moves = t.moves;
  long = t.long;
  read = ap (is_read r) (sym (behind_is old new t.front t.moves)) ∙ (sym v ∙ e);
}

pub content_wrong : (r : Row) (count : ℕ) (old new : Place) (valid : Bool) → Taken count old new → valid ≡ is_read r (drop (length old.taken) new.taken) → valid ≡ false → NoContent r count old.rest
content_wrong r count old new valid t v e = record {
  none = λ front more s l.
      let same = append_same front t.front more new.rest (l ∙ sym t.long) (sym s ∙ t.moves.split) in
      ap (is_read r) (same.0 ∙ sym (behind_is old new t.front t.moves)) ∙ (sym v ∙ e);
}

pub content_wrong_at : (r : Row) (count : ℕ) (old new : Place) (valid : Bool) (at : ℕ) (bytes : List ℕ) → Taken count old new → at ≡ length old.taken → bytes ≡ new.taken → valid ≡ is_read r (take (length bytes - at) (drop at bytes)) → valid ≡ false → NoContent r count old.rest
content_wrong_at r count old new valid at bytes t a b v e =
    content_wrong r count old new valid t (v ∙ ap (is_read r) (content_is old new count at bytes t a b ∙ sym (behind_is old new t.front t.moves))) e

pub content_short : (r : Row) (count : ℕ) (rest : List ℕ) → length rest < count → NoContent r count rest
content_short r count rest s = record { none = λ front more e l. absurd (omega (arith, ap length e, length-append front more, l, s)) }

pub ruleset numbering = (taken_bytes, one_field, four_field, no_byte, no_four, content_taken, content_wrong, content_short)

tested : {X : Type 0} (b : Bool) (x : X) → b ≡ is_some (if b then Some x else None)
tested true x = refl
tested false x = refl

pub str8_valid : (bs : List ℕ) → is_utf8 bs ≡ is_read (row_at (Some Str8)) bs
str8_valid bs = tested (is_utf8 bs) (string bs)

pub str32_valid : (bs : List ℕ) → is_utf8 bs ≡ is_read (row_at (Some Str32)) bs
str32_valid bs = tested (is_utf8 bs) (string bs)

pub sym8_valid : (bs : List ℕ) → is_utf8 bs ≡ is_read (row_at (Some Sym8)) bs
sym8_valid bs = tested (is_utf8 bs) (symbol bs)

pub sym32_valid : (bs : List ℕ) → is_utf8 bs ≡ is_read (row_at (Some Sym32)) bs
sym32_valid bs = tested (is_utf8 bs) (symbol bs)

pub char_long : (len : ℕ) (code : EncodingCodes) → code ≡ Char → ((n : ℕ) → category_of (row_at (Some code)) ≡ Some (Fixed n) → len ≡ n) → len ≡ 4
char_long len code e f = f 4 (ap (λ (k : EncodingCodes). category_of (row_at (Some k))) e)

pub ruleset validating = (str8_valid, str32_valid, sym8_valid, sym32_valid, char_long)
