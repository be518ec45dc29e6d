-- Texts, and fronts of the same bytes.
use Rattle.std.proofs.Common.{◌≡◌, ℕ, List, [], ◌∷◌, ◌++◌, length, take, drop, take-append-drop, append_assoc, Bool, true, false, sym, ◌∙◌, ap, refl, arith}
use Rattle.std.specs.Str.{IsUtf8, is_utf8}
use Rattle.std.proofs.lemmas.Str.{IsUtf8-from_is_utf8, is_utf8-from_IsUtf8}
use Rattle.serde_amqp_read.specs.Reads.{Leads}
use Rattle.serde_amqp_item.proofs.Forms.{append_same}

pub utf8_is : (bs : List ℕ) → IsUtf8 bs → is_utf8 bs ≡ true
utf8_is bs u = is_utf8-from_IsUtf8 bs u

not_utf8 : (bs : List ℕ) (b : Bool) → is_utf8 bs ≡ b → (IsUtf8 bs → ⊥) → is_utf8 bs ≡ false
not_utf8 bs true e n = absurd (n (IsUtf8-from_is_utf8 bs e))
not_utf8 bs false e n = e

pub utf8_is_not : (bs : List ℕ) → (IsUtf8 bs → ⊥) → is_utf8 bs ≡ false
utf8_is_not bs n = not_utf8 bs (is_utf8 bs) refl n

-- so many bytes that are no text
pub no_text : (old new bytes : List ℕ) (count : ℕ) → old ≡ bytes ++ new → length bytes ≡ count → is_utf8 bytes ≡ false → (front more : List ℕ) → old ≡ front ++ more → length front ≡ count → is_utf8 front ≡ false
no_text old new bytes count e l u front more f k =
    let same = append_same front bytes more new (k ∙ sym l) (sym f ∙ e) in
    ap is_utf8 same.0 ∙ u

pub leads_empty : (buffer bytes : List ℕ) → length buffer ≡ 0 → Leads buffer bytes
leads_empty [] bytes e = record { others = bytes; split = refl }
leads_empty (b ∷ buffer) bytes e = absurd (omega arith)

pub leads_taken : (buffer fetched behind bytes : List ℕ) (count : ℕ) → buffer ≡ take count fetched → fetched ++ behind ≡ bytes → Leads buffer bytes
leads_taken buffer fetched behind bytes count b e = record {
  others = drop count fetched ++ behind;
  split = sym e ∙ (ap (λ (s : List ℕ). s ++ behind) (sym (take-append-drop count fetched)) ∙ (append_assoc (take count fetched) (drop count fetched) behind ∙ ap (λ (s : List ℕ). s ++ (drop count fetched ++ behind)) (sym b)));
}

pub ruleset leading = (leads_empty, leads_taken)

pub ruleset texts = (utf8_is, utf8_is_not, no_text)
