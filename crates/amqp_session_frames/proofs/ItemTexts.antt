-- The texts of items.
use Rattle.std.proofs.Common.{◌≡◌, ℕ, ◌+◌, ◌<◌, ◌≤◌, ◌^◌, List, [], ◌∷◌, ◌++◌, length, Bool, true, false, Option, Some, None, refl, ◌∙◌, ap, arith}
use Rattle.std.specs.Prelude.{nat_lt, ◌==◌, if◌then◌else◌}
use Rattle.std.specs.Int.{w32, to_be_bytes}
use Rattle.std.proofs.lemmas.Bool.Decides.{nat_tests}
use Rattle.serde_amqp_item.specs.Item.{Item, Items, scalar, uint, ulong, binary, list, described, more_items, item_count}
use Rattle.serde_amqp_item.specs.Canon.{canon, canon_all, counted_text, list_text, scalar_text, ◌>>=◌}
use Rattle.amqp_session_frames.specs.Items.{binary_text, short_record, uint_text}

pub uint_canon : (n : ℕ) → n < 2 ^ 32 → scalar_text (uint n) ≡ Some (uint_text n)
uint_canon n fits =
    let whole : nat_lt n (2 ^ 32) ≡ true = grind (arith, nat_tests) in
    ap (λ (b : Bool). if n == 0 then Some (0x43 ∷ []) else (if nat_lt n (2 ^ 8) then Some (0x52 ∷ n ∷ []) else (if b then Some (0x70 ∷ to_be_bytes w32 n) else None))) whole
    ∙ by (n == 0) (nat_lt n (2 ^ 8)) (0x43 ∷ []) (0x52 ∷ n ∷ []) (0x70 ∷ to_be_bytes w32 n)
  where
    by : (z s : Bool) (x y w : List ℕ) → (if z then Some x else (if s then Some y else Some w)) ≡ Some (if z then x else (if s then y else w))
    by true s x y w = refl
    by false true x y w = refl
    by false false x y w = refl

-- a binary of at most 32 bytes
pub tag_canon : (tag : List ℕ) → length tag ≤ 32 → scalar_text (binary tag) ≡ Some (binary_text tag)
tag_canon tag short =
    let narrow : nat_lt (length tag) 255 ≡ true = grind (arith, nat_tests) in rw narrow refl

pub items_canon : (x : Item) (xs : Items) (a b : List ℕ) → canon x ≡ Some a → canon_all xs ≡ Some b → canon_all (more_items x xs) ≡ Some (a ++ b)
items_canon x xs a b one rest =
    ap (λ (o : Option (List ℕ)). o >>= λ c. canon_all xs >>= λ d. Some (c ++ d)) one
    ∙ ap (λ (o : Option (List ℕ)). o >>= λ d. Some (a ++ d)) rest

-- a record of so many fields with these texts, which are some, and short; its code is one byte
pub record_canon : (code : ℕ) (xs : Items) (content : List ℕ) (n : ℕ) → canon (scalar (ulong code)) ≡ Some (0x53 ∷ code ∷ [])
    → canon_all xs ≡ Some content → item_count xs ≡ n → 0 < length content → length content < 255
    → canon (described (scalar (ulong code)) (list xs)) ≡ Some (short_record code n content)
record_canon code xs content n coded text count some short =
    let there : (length content == 0) ≡ false = grind (arith, nat_tests) in
    let narrow : nat_lt (length content) 255 ≡ true = grind (arith, nat_tests) in
    ap (λ (o : Option (List ℕ)). o >>= λ a. (canon_all xs >>= list_text (item_count xs)) >>= λ b. Some (0 ∷ a ++ b)) coded
    ∙ ap (λ (o : Option (List ℕ)). (o >>= list_text (item_count xs)) >>= λ b. Some (0 ∷ 0x53 ∷ code ∷ b)) text
    ∙ ap (λ (b : Bool). (if b then Some (0x45 ∷ []) else counted_text 0xc0 0xd0 (item_count xs) content) >>= λ t. Some (0 ∷ 0x53 ∷ code ∷ t)) there
    ∙ ap (λ (b : Bool). (if b then Some (0xc0 ∷ (length content + 1) ∷ item_count xs ∷ content) else (if nat_lt (length content + 4) (2 ^ 32) then Some (0xd0 ∷ (to_be_bytes w32 (length content + 4) ++ to_be_bytes w32 (item_count xs) ++ content)) else None)) >>= λ t. Some (0 ∷ 0x53 ∷ code ∷ t)) narrow
    ∙ ap (λ (k : ℕ). Some (0 ∷ 0x53 ∷ code ∷ 0xc0 ∷ (length content + 1) ∷ k ∷ content)) count
