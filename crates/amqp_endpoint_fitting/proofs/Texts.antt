-- How long canonical texts are at most.
use Rattle.std.proofs.Common.{◌≡◌, ℕ, ◌+◌, ◌≤◌, ◌<◌, Bool, true, false, List, [], ◌∷◌, length, refl, sym, arith, subst, ◌∙◌, Option, Some}
use Rattle.std.specs.Prelude.{if◌then◌else◌, ◌==◌, nat_lt, ◌^◌}
use Rattle.std.specs.Int.{w16, w32, to_be_bytes}
use Rattle.std.specs.Str.{is_utf8}
use Rattle.std.proofs.lemmas.Bool.Decides.{nat_tests}
use Rattle.serde_amqp_item.specs.Item.{Item, scalar, null, boolean, ushort, uint, symbol}
use Rattle.serde_amqp_item.specs.Canon.{◌>>=◌, canon}

-- there is a text, of at most so many bytes
pub record Within (most : ℕ) (text : Option (List ℕ)) : Type 0 where
  pub bytes : List ℕ
  pub is : text ≡ Some bytes
  pub short : length bytes ≤ most

pub this : (most : ℕ) (bytes : List ℕ) → length bytes ≤ most → Within most (Some bytes)
this most bytes short = record { bytes = bytes; is = refl; short = short }

pub more : (few most : ℕ) (text : Option (List ℕ)) → few ≤ most → Within few text → Within most text
more few most text le w = record { bytes = w.bytes; is = w.is; short = omega (arith, le, w.short) }

-- whatever the test says
pub either : (most : ℕ) (b : Bool) (o p : Option (List ℕ)) → (b ≡ true → Within most o) → (b ≡ false → Within most p)
    → Within most (if b then o else p)
either most true o p h k = h refl
either most false o p h k = k refl

-- a text, and one behind it
pub behind : (a b most : ℕ) (o p : Option (List ℕ)) (f : List ℕ → List ℕ → List ℕ) → Within a o → Within b p
    → ((x y : List ℕ) → length x ≤ a → length y ≤ b → length (f x y) ≤ most)
    → Within most (o >>= λ x. p >>= λ y. Some (f x y))
behind a b most o p f v w short =
    let P : Option (List ℕ) → Type 0 = λ o. Within most (o >>= λ x. p >>= λ y. Some (f x y)) in
    let Q : Option (List ℕ) → Type 0 = λ p. Within most (p >>= λ y. Some (f v.bytes y)) in
    subst P (sym v.is) (subst Q (sym w.is) (this most (f v.bytes w.bytes) (short v.bytes w.bytes v.short w.short)))

-- what is made of a text
pub made : (a most : ℕ) (o : Option (List ℕ)) (f : List ℕ → Option (List ℕ)) → Within a o
    → ((x : List ℕ) → length x ≤ a → Within most (f x)) → Within most (o >>= f)
made a most o f v short =
    let P : Option (List ℕ) → Type 0 = λ o. Within most (o >>= f) in
    subst P (sym v.is) (short v.bytes v.short)

pub not_below : (n m : ℕ) → n < m → nat_lt n m ≡ false → ⊥
not_below n m h e = grind (arith, nat_tests)

-- an item's canonical text has at most so many bytes
pub record Short (most : ℕ) (x : Item) : Type 0 where
  pub within : Within most (canon x)

pub short : (most : ℕ) (x : Item) (bytes : List ℕ) → canon x ≡ Some bytes → length bytes ≤ most → Short most x
short most x bytes is h = record { within = record { bytes = bytes; is = is; short = h } }

-- a ushort has three bytes (part 1, 1.6.4)
pub ushort-short : (n : ℕ) → n < 2 ^ 16 → Short 3 (scalar (ushort n))
ushort-short n h = record {
  within =
      either 3 (nat_lt n (2 ^ 16)) _ _ (λ e. this 3 (0x60 ∷ to_be_bytes w16 n) (omega arith))
      (λ e. absurd (not_below n (2 ^ 16) h e));
}

-- a uint at most five (1.6.5)
pub uint-short : (n : ℕ) → n < 2 ^ 32 → Short 5 (scalar (uint n))
uint-short n h = record {
  within =
      either 5 (n == 0) _ _ (λ e. this 5 (0x43 ∷ []) (omega arith)) (λ z.
      either 5 (nat_lt n (2 ^ 8)) _ _ (λ e. this 5 (0x52 ∷ n ∷ []) (omega arith)) (λ s.
      either 5 (nat_lt n (2 ^ 32)) _ _ (λ e. this 5 (0x70 ∷ to_be_bytes w32 n) (omega arith))
      (λ e. absurd (not_below n (2 ^ 32) h e))));
}

-- null has one (1.6.1), and a boolean (1.6.2)
pub null-short : (most : ℕ) → 1 ≤ most → Short most (scalar null)
null-short most h = short most (scalar null) (0x40 ∷ []) refl h

pub boolean-short : (b : Bool) → Short 1 (scalar (boolean b))
boolean-short true = short 1 (scalar (boolean true)) (0x41 ∷ []) refl (omega arith)
boolean-short false = short 1 (scalar (boolean false)) (0x42 ∷ []) refl (omega arith)

-- a symbol of at most 254 bytes has two more (1.6.21)
pub symbol-short : (most : ℕ) (s : List ℕ) → is_utf8 s ≡ true → length s ≤ most → most < 255
    → Short (2 + most) (scalar (symbol s))
symbol-short most s text h few = record {
  within =
      either (2 + most) (is_utf8 s) _ _ (λ e.
      either (2 + most) (nat_lt (length s) 255) _ _ (λ f. this (2 + most) (0xa3 ∷ length s ∷ s) (omega (arith, h)))
      (λ f. absurd (not_below (length s) 255 (omega (arith, h, few)) f)))
      (λ e. absurd (let x : true ≡ false = sym text ∙ e in cc));
}
