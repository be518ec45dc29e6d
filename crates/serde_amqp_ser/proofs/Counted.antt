-- What stands before the content of a list, an array or a map.
use Rattle.std.proofs.Common.{◌≡◌, ℕ, ◌+◌, ◌<◌, ◌≤◌, ◌^◌, List, ◌∷◌, ◌++◌, length, Option, Some, None, Bool, true, false, cond, ◌∙◌, ap, refl, arith}
use Rattle.std.specs.Prelude.{nat_lt}
use Rattle.std.specs.Int.{w32, to_be_bytes}
use Rattle.std.proofs.lemmas.Bool.Decides.{nat_tests}
use Rattle.serde_amqp_item.specs.Canon.{◌>>=◌, Place, alone, first, next, settled, counted_text, counted_wide}
use Rattle.serde_amqp_ser.specs.Puts.{counted_placed, place_of}
use Rattle.serde_amqp_ser.specs.declared.place.IsArrayElement.{IsArrayElement}
use Rattle.serde_amqp_ser.specs.declared.place.IsArrayElement.TheVariants.{False, FirstElement, OtherElement}

pub alone_is : (e : IsArrayElement) → place_of e ≡ alone → e ≡ False
alone_is False h = refl
alone_is FirstElement h = absurd cc
alone_is (OtherElement c) h = absurd cc

abbrev pub four_bytes : ℕ → ℕ → List ℕ → List ℕ
four_bytes size count content = to_be_bytes w32 size ++ to_be_bytes w32 count ++ content

text_wide : (narrow wide count : ℕ) (content : List ℕ) → 255 ≤ length content → length content + 4 < 2 ^ 32 → counted_text narrow wide count content ≡ Some (wide ∷ four_bytes (length content + 4) count content)
text_wide narrow wide count content a b =
    let t : nat_lt (length content) 255 ≡ false = grind (arith, nat_tests) in
    let u : nat_lt (length content + 4) (2 ^ 32) ≡ true = grind (arith, nat_tests) in
    rw (t, u) refl

wide_is : (wide count : ℕ) (content : List ℕ) → length content + 4 < 2 ^ 32 → counted_wide wide count content ≡ Some (wide, four_bytes (length content + 4) count content)
wide_is wide count content a = let t : nat_lt (length content + 4) (2 ^ 32) ≡ true = grind (arith, nat_tests) in rw t refl

pub counted_long : (p : Place) (narrow wide count : ℕ) (content : List ℕ) → 2 ^ 32 ≤ length content + 4 → counted_placed p narrow wide count content ≡ None
counted_long alone narrow wide count content a =
    let t : nat_lt (length content) 255 ≡ false = grind (arith, nat_tests) in
    let u : nat_lt (length content + 4) (2 ^ 32) ≡ false = grind (arith, nat_tests) in
    rw (t, u) refl
counted_long first narrow wide count content a = let u : nat_lt (length content + 4) (2 ^ 32) ≡ false = grind (arith, nat_tests) in rw u refl
counted_long (next c) narrow wide count content a = let u : nat_lt (length content + 4) (2 ^ 32) ≡ false = grind (arith, nat_tests) in rw u refl

fits_by : (b : Bool) (n len : ℕ) → nat_lt n (2 ^ 32) ≡ b → cond b (Some n) None ≡ Some len → (n ≡ len) × (n < 2 ^ 32)
fits_by true n len t e = (cc, grind (arith, nat_tests))
fits_by false n len t e = absurd cc

-- the size of a content that fits
pub fits_some : (n len : ℕ) → cond (nat_lt n (2 ^ 32)) (Some n) None ≡ Some len → (n ≡ len) × (n < 2 ^ 32)
fits_some n len e = fits_by (nat_lt n (2 ^ 32)) n len refl e

pub counted_at : (p : Place) (narrow wide count size : ℕ) (content : List ℕ) → (p ≡ alone → 255 ≤ length content) → length content + 4 ≡ size → size < 2 ^ 32 → counted_placed p narrow wide count content ≡ settled p (wide, four_bytes size count content)
counted_at alone narrow wide count size content l e h =
    ap (λ (o : Option (List ℕ)). o >>= λ a. Some (alone, a)) (text_wide narrow wide count content (l refl) (omega arith)) ∙ ap (λ (k : ℕ). Some (alone, wide ∷ four_bytes k count content)) e
counted_at first narrow wide count size content l e h =
    ap (λ (o : Option (ℕ × List ℕ)). o >>= settled first) (wide_is wide count content (omega arith)) ∙ ap (λ (k : ℕ). settled first (wide, four_bytes k count content)) e
counted_at (next c) narrow wide count size content l e h =
    ap (λ (o : Option (ℕ × List ℕ)). o >>= settled (next c)) (wide_is wide count content (omega arith)) ∙ ap (λ (k : ℕ). settled (next c) (wide, four_bytes k count content)) e
