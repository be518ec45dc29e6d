-- How long the texts of described lists are at most.
use Rattle.std.proofs.Common.{ℕ, ◌+◌, ◌≤◌, ◌<◌, Bool, true, false, List, [], ◌∷◌, ◌++◌, length, arith, Option, Some, None}
use Rattle.std.specs.Prelude.{if◌then◌else◌, ◌==◌, nat_lt, IfSome}
use Rattle.std.proofs.lemmas.List.{length-append}
use Rattle.serde_amqp_item.specs.Item.{Item, items_of, item_count, scalar, null, ulong, list}
use Rattle.serde_amqp_item.specs.Record.{all_null, trimmed, option_item, record_item}
use Rattle.serde_amqp_item.specs.Canon.{canon, canon_all, list_text}
use Rattle.serde_amqp_de.specs.Takes.{or_null}
use Rattle.amqp_endpoint_fitting.proofs.Texts.{Within, this, more, either, behind, made, not_below, Short, null-short}

-- the texts of these fields, without the nulls at the end, have together at most so many bytes
pub record ShortFields (most : ℕ) (fields : List Item) : Type 0 where
  pub within : Within most (canon_all (items_of (trimmed fields)))

pub no_fields : ShortFields 0 []
no_fields = record { within = this 0 [] (omega arith) }

joined-short : (a b : ℕ) (x y : List ℕ) → length x ≤ a → length y ≤ b → length (x ++ y) ≤ a + b
joined-short a b x y h k = omega (arith, length-append x y, h, k)

kept-within : (a b : ℕ) (nulls : Bool) (x : Item) (xs : List Item) → Within a (canon x)
    → Within b (canon_all (items_of xs)) → Within (a + b) (canon_all (items_of (if nulls then [] else (x ∷ xs))))
kept-within a b true x xs v w = this (a + b) [] (omega arith)
kept-within a b false x xs v w =
    behind a b (a + b) (canon x) (canon_all (items_of xs)) (λ s t. s ++ t) v w (joined-short a b)

-- one field more
pub field : {a b : ℕ} {x : Item} {xs : List Item} → Short a x → ShortFields b xs → ShortFields (a + b) (x ∷ xs)
field {a} {b} {x} {xs} v w =
    record { within = kept-within a b (all_null (x ∷ xs)) x (trimmed xs) v.within w.within }

-- a field that may be absent
pub option-short : {X : Type 0} (most : ℕ) (item : X → Item) (P : X → Type 0) (o : Option X) → 1 ≤ most
    → ((x : X) → P x → Short most (item x)) → IfSome o P → Short most (option_item item o)
option-short most item P None least each h = null-short most least
option-short most item P (Some x) least each h = each x h

-- a field that is absent where it says the default
pub default-short : (most : ℕ) (test : Item → Bool) (x : Item) → 1 ≤ most → Short most x → Short most (or_null test x)
default-short most test x least w = by (test x)
  where
    by : (b : Bool) → Short most (if b then scalar null else x)
    by true = null-short most least
    by false = w

counted-within : (most count : ℕ) (content : List ℕ) → length content ≤ most → most < 255
    → Within (most + 3) (list_text count content)
counted-within most count content short few =
    either (most + 3) (length content == 0) _ _ (λ e. this (most + 3) (0x45 ∷ []) (omega arith)) (λ e.
    either (most + 3) (nat_lt (length content) 255) _ _
    (λ f. this (most + 3) (0xc0 ∷ (length content + 1) ∷ count ∷ content) (omega (arith, short)))
    (λ f. absurd (not_below (length content) 255 (omega (arith, short, few)) f)))

described-short : (a b : ℕ) (x y : List ℕ) → length x ≤ a → length y ≤ b → length (0x00 ∷ x ++ y) ≤ a + b + 1
described-short a b x y h k = omega (arith, length-append x y, h, k)

-- a described list has at most six bytes more than its fields, where its code has one byte (part 1, 1.2, 1.6.22)
pub record-short : (most code : ℕ) (fields : List Item) → most < 255 → Short 2 (scalar (ulong code))
    → ShortFields most fields → Short (most + 6) (record_item code fields)
record-short most code fields few coded w =
    let count : ℕ = item_count (items_of (trimmed fields)) in
    let listed : Within (most + 3) (canon (list (items_of (trimmed fields)))) =
    made most (most + 3) (canon_all (items_of (trimmed fields))) (list_text count) w.within
    (λ x short. counted-within most count x short few) in
    record {
      within =
          more (2 + (most + 3) + 1) (most + 6) _ (omega arith)
          (behind 2 (most + 3) (2 + (most + 3) + 1) (canon (scalar (ulong code)))
          (canon (list (items_of (trimmed fields)))) (λ x y. 0x00 ∷ x ++ y) coded.within listed
          (described-short 2 (most + 3)));
    }
