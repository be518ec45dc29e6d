-- A record whose fields are those of another, or null, has a canonical text that is no longer.
use Rattle.std.proofs.Common.{◌≡◌, ℕ, ◌+◌, ◌<◌, ◌≤◌, ◌^◌, ◌⊎◌, inl, inr, Bool, true, false, List, [], ◌∷◌, ◌++◌, length, Option, Some, None, ◌∙◌, ap, refl, arith, length-append}
use Rattle.std.specs.Prelude.{nat_lt, ◌==◌, ◌&&◌, if◌then◌else◌}
use Rattle.std.specs.Int.{w32, to_be_bytes}
use Rattle.std.proofs.lemmas.Bool.Decides.{nat_tests}
use Rattle.serde_amqp_item.specs.Item.{Item, scalar, null, ulong, list, items_of, item_count}
use Rattle.serde_amqp_item.specs.Canon.{◌>>=◌, canon, canon_all, counted_text, list_text}
use Rattle.serde_amqp_item.specs.Record.{is_null, all_null, trimmed, record_item}
use Rattle.serde_amqp_item.proofs.Texts.{bind_some, canon_long}

-- each is that of the other, or null
abbrev pub Fewer : List Item → List Item → Type 0
Fewer [] [] = Unit {0}
Fewer [] (x ∷ xs) = ⊥
Fewer (y ∷ ys) [] = ⊥
Fewer (y ∷ ys) (x ∷ xs) = ((y ≡ x) ⊎ (y ≡ scalar null)) × Fewer ys xs

-- there is a text of at most so many bytes
pub record Within (text : Option (List ℕ)) (most : ℕ) : Type 0 where
  pub bytes : List ℕ
  pub is : text ≡ Some bytes
  pub short : length bytes ≤ most

some_same : {A : Type 0} (x y : A) → Some x ≡ Some y → x ≡ y
some_same x y e = cc

-- ---- the content

both_texts : (o p : Option (List ℕ)) (a b : List ℕ) → o ≡ Some a → p ≡ Some b → (o >>= λ s. p >>= λ t. Some (s ++ t)) ≡ Some (a ++ b)
both_texts None p a b e f = absurd cc
both_texts (Some s) None a b e f = absurd cc
both_texts (Some s) (Some t) a b e f =
    let one : s ≡ a = cc in
    let two : t ≡ b = cc in
    ap (λ (x : List ℕ). Some (x ++ t)) one ∙ ap (λ (x : List ℕ). Some (a ++ x)) two

item_within : (y x : Item) (a : List ℕ) → (y ≡ x) ⊎ (y ≡ scalar null) → canon x ≡ Some a → Within (canon y) (length a)
item_within y x a (inl same) e = record { bytes = a; is = ap canon same ∙ e; short = omega arith }
item_within y x a (inr none) e = record { bytes = 0x40 ∷ []; is = ap canon none; short = omega (arith, canon_long x a e) }

null_too : (y x : Item) → (y ≡ x) ⊎ (y ≡ scalar null) → is_null x ≡ true → is_null y ≡ true
null_too y x (inl same) e = ap is_null same ∙ e
null_too y x (inr none) e = ap is_null none

both_true : (a b : Bool) → (a && b) ≡ true → (a ≡ true) × (b ≡ true)
both_true true b e = (refl, e)
both_true false b e = absurd cc

true_both : (a b : Bool) → a ≡ true → b ≡ true → (a && b) ≡ true
true_both true b e f = f
true_both false b e f = absurd cc

all_null_too : (ys xs : List Item) → Fewer ys xs → all_null xs ≡ true → all_null ys ≡ true
all_null_too [] [] f e = refl
all_null_too [] (x ∷ xs) f e = absurd f
all_null_too (y ∷ ys) [] f e = absurd f
all_null_too (y ∷ ys) (x ∷ xs) f e =
    let p = both_true (is_null x) (all_null xs) e in
    true_both (is_null y) (all_null ys) (null_too y x f.0 p.0) (all_null_too ys xs f.1 p.1)

cons_within : (y x : Item) (ys xs : List Item) (b : List ℕ) → (y ≡ x) ⊎ (y ≡ scalar null) → ((c : List ℕ) → canon_all (items_of xs) ≡ Some c → Within (canon_all (items_of ys)) (length c)) → canon_all (items_of (x ∷ xs)) ≡ Some b → Within (canon_all (items_of (y ∷ ys))) (length b)
cons_within y x ys xs b f others e =
    let p = bind_some (canon x) (λ s. canon_all (items_of xs) >>= λ t. Some (s ++ t)) b e in
    let q = bind_some (canon_all (items_of xs)) (λ t. Some (p.0 ++ t)) b p.2 in
    let one = item_within y x p.0 f p.1 in
    let more = others q.0 q.1 in
    let whole : p.0 ++ q.0 ≡ b = some_same _ _ q.2 in
    record {
      bytes = one.bytes ++ more.bytes;
      is = both_texts (canon y) (canon_all (items_of ys)) one.bytes more.bytes one.is more.is;
      short = omega (arith, one.short, more.short, length-append one.bytes more.bytes, length-append p.0 q.0, ap length whole);
    }

chosen_within : (p q : Bool) (y x : Item) (ys xs : List Item) (b : List ℕ) → (q ≡ true → p ≡ true) → (y ≡ x) ⊎ (y ≡ scalar null) → ((c : List ℕ) → canon_all (items_of xs) ≡ Some c → Within (canon_all (items_of ys)) (length c)) → canon_all (items_of (if q then [] else (x ∷ xs))) ≡ Some b → Within (canon_all (items_of (if p then [] else (y ∷ ys)))) (length b)
chosen_within true q y x ys xs b t f others e = record { bytes = []; is = refl; short = omega arith }
chosen_within false true y x ys xs b t f others e = let no : false ≡ true = t refl in absurd cc
chosen_within false false y x ys xs b t f others e = cons_within y x ys xs b f others e

content_within : (ys xs : List Item) (b : List ℕ) → Fewer ys xs → canon_all (items_of (trimmed xs)) ≡ Some b → Within (canon_all (items_of (trimmed ys))) (length b)
content_within [] [] b f e = record { bytes = []; is = refl; short = omega arith }
content_within [] (x ∷ xs) b f e = absurd f
content_within (y ∷ ys) [] b f e = absurd f
content_within (y ∷ ys) (x ∷ xs) b f e =
    chosen_within (all_null (y ∷ ys)) (all_null (x ∷ xs)) y x (trimmed ys) (trimmed xs) b (all_null_too (y ∷ ys) (x ∷ xs) f) f.0 (λ c d. content_within ys xs c f.1 d) e

-- ---- the list

-- how many bytes a list with so many bytes of content has
list_size : ℕ → ℕ
list_size n = if n == 0 then 1 else if nat_lt n 255 then 3 + n else 9 + n

sizes : (n m : ℕ) → n ≤ m → list_size n ≤ list_size m
unfolding list_size
sizes n m le = by (n == 0) (nat_lt n 255) (m == 0) (nat_lt m 255) refl refl refl refl
  where
    by : (a b c d : Bool) → (n == 0) ≡ a → nat_lt n 255 ≡ b → (m == 0) ≡ c → nat_lt m 255 ≡ d → (if n == 0 then 1 else if nat_lt n 255 then 3 + n else 9 + n) ≤ (if m == 0 then 1 else if nat_lt m 255 then 3 + m else 9 + m)
    by a b c d e f g h = grind (arith, nat_tests)

wide_long : (count : ℕ) (content : List ℕ) → length (to_be_bytes w32 (length content + 4) ++ to_be_bytes w32 count ++ content) ≡ 8 + length content
wide_long count content = omega (arith, length-append (to_be_bytes w32 (length content + 4)) (to_be_bytes w32 count ++ content), length-append (to_be_bytes w32 count) content)

below : (a b : ℕ) → nat_lt a b ≡ true → a < b
below a b e = grind (arith, nat_tests)

not_below : (a b : ℕ) → nat_lt a b ≡ false → b ≤ a
not_below a b e = grind (arith, nat_tests)

-- a list text's length, and its content
record Listed (text content : List ℕ) : Type 0 where
  pub fits : length content + 4 < 2 ^ 32
  pub long : length text ≡ list_size (length content)

sized_is : (n : ℕ) → (n == 0) ≡ false → nat_lt n 255 ≡ false → list_size n ≡ 9 + n
unfolding list_size
sized_is n e f = rw e (rw f refl)

short_is : (n : ℕ) → (n == 0) ≡ false → nat_lt n 255 ≡ true → list_size n ≡ 3 + n
unfolding list_size
short_is n e f = rw e (rw f refl)

empty_is : (n : ℕ) → (n == 0) ≡ true → list_size n ≡ 1
unfolding list_size
empty_is n e = rw e refl

wide_listed : (count : ℕ) (content text : List ℕ) (b : Bool) → nat_lt (length content + 4) (2 ^ 32) ≡ b → (length content == 0) ≡ false → nat_lt (length content) 255 ≡ false → (if b then Some (0xd0 ∷ (to_be_bytes w32 (length content + 4) ++ to_be_bytes w32 count ++ content)) else None) ≡ Some text → Listed text content
wide_listed count content text true t e f is =
    let same : 0xd0 ∷ (to_be_bytes w32 (length content + 4) ++ to_be_bytes w32 count ++ content) ≡ text = some_same _ _ is in
    record {
      fits = below (length content + 4) (2 ^ 32) t;
      long = omega (arith, ap length same, wide_long count content, sized_is (length content) e f);
    }
wide_listed count content text false t e f is = absurd cc

counted_listed : (count : ℕ) (content text : List ℕ) (b : Bool) → nat_lt (length content) 255 ≡ b → (length content == 0) ≡ false → (if b then Some (0xc0 ∷ (length content + 1) ∷ count ∷ content) else if nat_lt (length content + 4) (2 ^ 32) then Some (0xd0 ∷ (to_be_bytes w32 (length content + 4) ++ to_be_bytes w32 count ++ content)) else None) ≡ Some text → Listed text content
counted_listed count content text true t e is =
    let same : 0xc0 ∷ (length content + 1) ∷ count ∷ content ≡ text = some_same _ _ is in
    record {
      fits = omega (arith, below (length content) 255 t);
      long = omega (arith, ap length same, short_is (length content) e t);
    }
counted_listed count content text false t e is = wide_listed count content text (nat_lt (length content + 4) (2 ^ 32)) refl e t is

any_listed : (count : ℕ) (content text : List ℕ) (b : Bool) → (length content == 0) ≡ b → (if b then Some (0x45 ∷ []) else counted_text 0xc0 0xd0 count content) ≡ Some text → Listed text content
any_listed count content text true t is =
    let same : 0x45 ∷ [] ≡ text = some_same _ _ is in
    let none : length content ≡ 0 = grind (arith, nat_tests) in
    record { fits = omega (arith, none); long = omega (arith, ap length same, empty_is (length content) t) }
any_listed count content text false t is = counted_listed count content text (nat_lt (length content) 255) refl t is

listed : (count : ℕ) (content text : List ℕ) → list_text count content ≡ Some text → Listed text content
listed count content text is = any_listed count content text (length content == 0) refl is

-- a list with this content has a text
record HasText (text : Option (List ℕ)) (content : List ℕ) : Type 0 where
  pub bytes : List ℕ
  pub is : text ≡ Some bytes
  pub long : length bytes ≡ list_size (length content)

wide_text : (count : ℕ) (content : List ℕ) (b : Bool) → nat_lt (length content + 4) (2 ^ 32) ≡ b → length content + 4 < 2 ^ 32 → (length content == 0) ≡ false → nat_lt (length content) 255 ≡ false → HasText (if b then Some (0xd0 ∷ (to_be_bytes w32 (length content + 4) ++ to_be_bytes w32 count ++ content)) else None) content
wide_text count content true t lt e f = record {
  bytes = 0xd0 ∷ (to_be_bytes w32 (length content + 4) ++ to_be_bytes w32 count ++ content);
  is = refl;
  long = omega (arith, wide_long count content, sized_is (length content) e f);
}
wide_text count content false t lt e f = absurd (omega (arith, lt, not_below (length content + 4) (2 ^ 32) t))

counted_has : (count : ℕ) (content : List ℕ) (b : Bool) → nat_lt (length content) 255 ≡ b → length content + 4 < 2 ^ 32 → (length content == 0) ≡ false → HasText (if b then Some (0xc0 ∷ (length content + 1) ∷ count ∷ content) else if nat_lt (length content + 4) (2 ^ 32) then Some (0xd0 ∷ (to_be_bytes w32 (length content + 4) ++ to_be_bytes w32 count ++ content)) else None) content
counted_has count content true t lt e = record { bytes = 0xc0 ∷ (length content + 1) ∷ count ∷ content; is = refl; long = omega (arith, short_is (length content) e t) }
counted_has count content false t lt e = wide_text count content (nat_lt (length content + 4) (2 ^ 32)) refl lt e t

any_has : (count : ℕ) (content : List ℕ) (b : Bool) → (length content == 0) ≡ b → length content + 4 < 2 ^ 32 → HasText (if b then Some (0x45 ∷ []) else counted_text 0xc0 0xd0 count content) content
any_has count content true t lt = record { bytes = 0x45 ∷ []; is = refl; long = omega (arith, empty_is (length content) t) }
any_has count content false t lt = counted_has count content (nat_lt (length content) 255) refl lt t

has_text : (count : ℕ) (content : List ℕ) → length content + 4 < 2 ^ 32 → HasText (list_text count content) content
has_text count content lt = any_has count content (length content == 0) refl lt

list_within : (ys xs : List Item) (text : List ℕ) → Fewer ys xs → canon (list (items_of (trimmed xs))) ≡ Some text → Within (canon (list (items_of (trimmed ys)))) (length text)
list_within ys xs text f e =
    let p = bind_some (canon_all (items_of (trimmed xs))) (list_text (item_count (items_of (trimmed xs)))) text e in
    let l = listed (item_count (items_of (trimmed xs))) p.0 text p.2 in
    let c = content_within ys xs p.0 f p.1 in
    let h = has_text (item_count (items_of (trimmed ys))) c.bytes (omega (arith, l.fits, c.short)) in
    record {
      bytes = h.bytes;
      is = ap (λ (o : Option (List ℕ)). o >>= list_text (item_count (items_of (trimmed ys)))) c.is ∙ h.is;
      short = omega (arith, h.long, l.long, sizes (length c.bytes) (length p.0) c.short);
    }

-- a record whose fields are those of another, or null, has a text that is no longer
pub record_within : (code : ℕ) (ys xs : List Item) (text : List ℕ) → Fewer ys xs → canon (record_item code xs) ≡ Some text → Within (canon (record_item code ys)) (length text)
record_within code ys xs text f e =
    let p = bind_some (canon (scalar (ulong code))) (λ a. canon (list (items_of (trimmed xs))) >>= λ b. Some (0x00 ∷ a ++ b)) text e in
    let q = bind_some (canon (list (items_of (trimmed xs)))) (λ b. Some (0x00 ∷ p.0 ++ b)) text p.2 in
    let w = list_within ys xs q.0 f q.1 in
    let whole : 0x00 ∷ p.0 ++ q.0 ≡ text = some_same _ _ q.2 in
    record {
      bytes = 0x00 ∷ p.0 ++ w.bytes;
      is = ap (λ (o : Option (List ℕ)). o >>= λ a. canon (list (items_of (trimmed ys))) >>= λ b. Some (0x00 ∷ a ++ b)) p.1 ∙ ap (λ (o : Option (List ℕ)). o >>= λ b. Some (0x00 ∷ p.0 ++ b)) w.is;
      short = omega (arith, w.short, ap length whole, length-append p.0 q.0, length-append p.0 w.bytes);
    }
