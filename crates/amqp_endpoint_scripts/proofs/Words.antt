-- Numbers and words as std reads them.
use Rattle.std.proofs.Common.{◌≡◌, ◌≢◌, ℕ, ◌<◌, ◌^◌, ◌==◌, ◌&&◌, ◌||◌, Bool, true, false, not, if◌then◌else◌, nat_lt}
use Rattle.std.proofs.Common.{List, [], ◌∷◌, length, map, Bor, Option, Some, None, Result, Ok, Err, get_or, refl, sym}
use Rattle.std.proofs.Common.{◌∙◌, ap, arith}
use Rattle.std.specs.Result.{result_ok, OkIff, IfOk}
use Rattle.std.specs.List.{list_any}
use Rattle.std.specs.Str.{all_ascii_digits}
use Rattle.std.specs.Str.Parse.{ParsesUnsigned, digits_value}
use Rattle.std.proofs.lemmas.Str.Parse.{IsNumeralModel, numerals_by_value, tells_all_ascii_digits, parse_plain}
use Rattle.std.proofs.lemmas.Bool.{ltb-true, lt-ltb}
use Rattle.std.specs.Str.{IsUtf8, is_utf8}
use Rattle.std.proofs.lemmas.Str.{IsUtf8-from_is_utf8, is_utf8-from_IsUtf8}
use Rattle.amqp_endpoint_scripts.specs.declared.statement.Statement.{Statement}
use Rattle.amqp_endpoint_scripts.specs.Digits.{number_under}
use Rattle.amqp_endpoint_scripts.specs.Script.{words_said, statement, parts_at}

own : IsNumeralModel (λ ds. all_ascii_digits ds ≡ true) (digits_value 10)
own = numerals_by_value _ tells_all_ascii_digits

none_unless : (a b c : Bool) (v : ℕ) → (a ≡ true → b ≡ false → c ≡ true → ⊥) → None ≡ (if a && not b && c then Some v else None)
none_unless false b c v h = refl
none_unless true true c v h = refl
none_unless true false false v h = refl
none_unless true false true v h = absurd (h refl refl refl)

some_where : (a b c : Bool) (v : ℕ) → a ≡ true → b ≡ false → c ≡ true → Some v ≡ (if a && not b && c then Some v else None)
some_where a b c v p q r = rw (p, q, r) refl

number_from_result : {E : Type 0} (limit : ℕ) (word : List ℕ) (r : Result ℕ E) → OkIff r ((all_ascii_digits word ≡ true) × (0 < length word) × (digits_value 10 word < limit)) (digits_value 10 word) → result_ok r ≡ number_under limit word
number_from_result limit word (Ok x) h = ap Some h.1 ∙ some_where (all_ascii_digits word) (length word == 0) (nat_lt (digits_value 10 word) limit) (digits_value 10 word) h.0.0 (grind (arith, h.0.1)) (lt-ltb _ _ h.0.2)
number_from_result limit word (Err e) h = none_unless (all_ascii_digits word) (length word == 0) (nat_lt (digits_value 10 word) limit) (digits_value 10 word) (λ a b c. h (a, grind (arith, b), ltb-true _ _ c))

-- what `parse` reads of a text without a sign
pub number_from_parse : {E : Type 0} (k : ℕ) (word : List ℕ) (r : Result ℕ E) → get_or word 0 0 ≢ 43 → ParsesUnsigned k 10 word r → result_ok r ≡ number_under (2 ^ k) word
number_from_parse k word r plain parses = number_from_result (2 ^ k) word r (parse_plain own k word r parses plain)

-- so many words say nothing
pub other_words : (words : List (Bor (List ℕ))) → length words ≢ 1 → length words ≢ 2 → length words ≢ 3
    → length words ≢ 4 → length words ≢ 5 → length words ≢ 6 → length words ≢ 7
    → None ≡ words_said (map (λ w. w.now) words)
other_words [] a b c d e f g = refl
other_words (w ∷ []) a b c d e f g = absurd (a refl)
other_words (w ∷ v ∷ []) a b c d e f g = absurd (b refl)
other_words (w ∷ v ∷ u ∷ []) a b c d e f g = absurd (c refl)
other_words (w ∷ v ∷ u ∷ t ∷ []) a b c d e f g = absurd (d refl)
other_words (w ∷ v ∷ u ∷ t ∷ s ∷ []) a b c d e f g = absurd (e refl)
other_words (w ∷ v ∷ u ∷ t ∷ s ∷ r ∷ []) a b c d e f g = absurd (f refl)
other_words (w ∷ v ∷ u ∷ t ∷ s ∷ r ∷ q ∷ []) a b c d e f g = absurd (g refl)
other_words (w ∷ v ∷ u ∷ t ∷ s ∷ r ∷ q ∷ p ∷ more) a b c d e f g = refl

not_utf8 : (line : List ℕ) → (IsUtf8 line → ⊥) → is_utf8 line ≡ false
not_utf8 line h = go (is_utf8 line) refl
  where
    go : (b : Bool) → is_utf8 line ≡ b → b ≡ false
    go true e = absurd (h (IsUtf8-from_is_utf8 line e))
    go false e = refl

-- a line that is no text says nothing
pub no_text : (line : List ℕ) → (IsUtf8 line → ⊥) → None ≡ statement line
no_text line h = rw (not_utf8 line h) refl

-- nor does one with an empty word
pub some_empty : (line : List ℕ) → list_any (λ word. length word == 0) (parts_at 32 line) ≡ true → None ≡ statement line
some_empty line e = rw e (go (is_utf8 line))
  where
    go : (b : Bool) → None ≡ (if b && not true then words_said (parts_at 32 line) else None)
    go true = refl
    go false = refl

none_empty : (line : List ℕ) → IsUtf8 line → list_any (λ word. length word == 0) (parts_at 32 line) ≡ false → words_said (parts_at 32 line) ≡ statement line
none_empty line u e = rw (is_utf8-from_IsUtf8 line u, e) refl

-- a line says what its words say
pub line_read : {E : Type 0} (line : List ℕ) (words : List (List ℕ)) (r : Result (Option Statement) E) → IsUtf8 line → words ≡ parts_at 32 line → list_any (λ word. length word == 0) words ≡ false → IfOk r (λ s. s ≡ words_said words) → IfOk r (λ s. s ≡ statement line)
line_read line words (Ok s) utf8 e none said = said ∙ ap words_said e ∙ none_empty line utf8 (sym (ap (list_any (λ word. length word == 0)) e) ∙ none)
line_read line words (Err x) utf8 e none said = tt

pub any_empty : (words : List (Bor (List ℕ))) → list_any (λ w. length w.now == 0) words ≡ list_any (λ w. length w == 0) (map (λ w. w.now) words)
any_empty [] = refl
any_empty (w ∷ words) = ap (λ b. (length w.now == 0) || b) (any_empty words)
