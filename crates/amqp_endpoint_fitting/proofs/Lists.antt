-- The texts of described lists: which is no longer than another.
use Rattle.std.proofs.Common.{◌≡◌, ◌⊎◌, inl, inr, ℕ, ◌+◌, ◌≤◌, ◌<◌, Bool, true, false, List, [], ◌∷◌, ◌++◌}
use Rattle.std.proofs.Common.{length, arith, refl, ap}
use Rattle.std.specs.Prelude.{◌^◌, ◌==◌, Option, Some, None, nat_lt, if◌then◌else◌}
use Rattle.std.specs.Int.{w32, to_be_bytes}
use Rattle.std.proofs.lemmas.Bool.Decides.{nat_tests}
use Rattle.std.proofs.lemmas.List.{length-append}
use Rattle.serde_amqp_item.specs.Item.{Item, scalar, ulong, described}
use Rattle.serde_amqp_item.specs.Canon.{canon, counted_text, list_text}
use Rattle.amqp_endpoint_fitting.proofs.Texts.{Short, Within, this, either, behind, not_below}

-- how long a text is
abbrev pub size : Option (List ℕ) → ℕ
size None = 0
size (Some text) = length text

-- the text of a list, narrow or wide, and what it is longer than
abbrev pub Sized : List ℕ → List ℕ → Type 0
Sized content text =
    ((length content < 255) × (3 + length content ≤ length text))
    ⊎ ((length content + 4 < 2 ^ 32) × (9 + length content ≤ length text))

below : (n m : ℕ) → nat_lt n m ≡ true → n < m
below n m h = grind (arith, nat_tests)

pub not_none : (n : ℕ) → 1 ≤ n → (n == 0) ≡ true → ⊥
not_none n h e = grind (arith, nat_tests)

pub sized : (count : ℕ) (content text : List ℕ) → 1 ≤ length content → list_text count content ≡ Some text
    → Sized content text
sized count content text some is = first (length content == 0) refl is
  where
    wide : List ℕ
    wide = 0xd0 ∷ (to_be_bytes w32 (length content + 4) ++ to_be_bytes w32 count ++ content)

    long : length wide ≡ 9 + length content
    long = omega (
      arith,
      length-append (to_be_bytes w32 (length content + 4)) (to_be_bytes w32 count ++ content),
      length-append (to_be_bytes w32 count) content,
    )

    third : (b : Bool) → nat_lt (length content + 4) (2 ^ 32) ≡ b → (if b then Some wide else None) ≡ Some text
        → Sized content text
    third true e is = inr (below (length content + 4) (2 ^ 32) e, omega (arith, long, ap size is))
    third false e is = absurd cc

    second : (b : Bool) → nat_lt (length content) 255 ≡ b
        → (if b then Some (0xc0 ∷ (length content + 1) ∷ count ∷ content) else
        if nat_lt (length content + 4) (2 ^ 32) then Some wide else None) ≡ Some text → Sized content text
    second true e is = inl (below (length content) 255 e, omega (arith, ap size is))
    second false e is = third (nat_lt (length content + 4) (2 ^ 32)) refl is

    first : (b : Bool) → (length content == 0) ≡ b
        → (if b then Some (0x45 ∷ []) else counted_text 0xc0 0xd0 count content) ≡ Some text → Sized content text
    first true e is = absurd (not_none (length content) some e)
    first false e is = second (nat_lt (length content) 255) refl is

-- a list with no more content has no longer a text
pub no-more : (most count : ℕ) (content other text : List ℕ) → Sized other text → length text ≤ most
    → length content ≤ length other → Within most (list_text count content)
no-more most count content other text (inl h) le few =
    either most (length content == 0) _ _ (λ e. this most (0x45 ∷ []) (omega (arith, h.1, le))) (λ e.
    either most (nat_lt (length content) 255) _ _
    (λ f. this most (0xc0 ∷ (length content + 1) ∷ count ∷ content) (omega (arith, h.1, le, few)))
    (λ f. absurd (not_below (length content) 255 (omega (arith, h.0, few)) f)))
no-more most count content other text (inr h) le few =
    either most (length content == 0) _ _ (λ e. this most (0x45 ∷ []) (omega (arith, h.1, le))) (λ e.
    either most (nat_lt (length content) 255) _ _
    (λ f. this most (0xc0 ∷ (length content + 1) ∷ count ∷ content) (omega (arith, h.1, le, few))) (λ f.
    either most (nat_lt (length content + 4) (2 ^ 32)) _ _
    (λ g. this most (0xd0 ∷ (to_be_bytes w32 (length content + 4) ++ to_be_bytes w32 count ++ content))
    (omega (
      arith,
      h.1,
      le,
      few,
      length-append (to_be_bytes w32 (length content + 4)) (to_be_bytes w32 count ++ content),
      length-append (to_be_bytes w32 count) content,
    )))
    (λ g. absurd (not_below (length content + 4) (2 ^ 32) (omega (arith, h.0, few)) g))))

-- a value behind a code of one byte has three bytes more than the value (part 1, 1.2)
pub described-short : (code most : ℕ) (v : Item) → Short 2 (scalar (ulong code)) → Within most (canon v)
    → Within (3 + most) (canon (described (scalar (ulong code)) v))
described-short code most v coded w =
    behind 2 most (3 + most) (canon (scalar (ulong code))) (canon v) (λ x y. 0x00 ∷ x ++ y) coded.within w
    (λ x y h k. omega (arith, length-append x y, h, k))
