-- The item of one of several composite types is taken as it is, and says which one it is.
use Rattle.std.proofs.Common.{◌≡◌, ℕ, List, true, false, Option, Some, None, sym, ◌∙◌, ap, refl, arith}
use Rattle.std.specs.Prelude.{◌==◌}
use Rattle.std.proofs.lemmas.Bool.Decides.{nat_tests}
use Rattle.serde_amqp_item.specs.Item.{Item, scalar, null, ulong, list, described, items_of}
use Rattle.serde_amqp_item.specs.Canon.{◌>>=◌}
use Rattle.serde_amqp_item.specs.Record.{trimmed, record_item}
use Rattle.serde_amqp_de.specs.Takes.{descriptor_taken, record_taken, reads_as_null}
use Rattle.serde_amqp_de.specs.Again.{EachAgain, record_again}
use Rattle.serde_amqp_values.specs.Choice.{Row, row_coded, row_said, fields_of, choice_taken}

same_number : (n : ℕ) → (n == n) ≡ true
same_number n = grind (arith, nat_tests)

code_taken : (code : ℕ) (name : List ℕ) → descriptor_taken code name (scalar (ulong code)) ≡ Some (scalar (ulong code))
unfolding descriptor_taken
code_taken code name = rw (same_number code) refl

fields_again : (r : Row) (ys : List Item) → EachAgain r.takes ys
    → fields_of r (list (items_of (trimmed ys))) ≡ Some (record_item r.code ys)
unfolding record_taken
fields_again r ys a =
    sym (ap (λ (o : Option Item). o >>= λ c. fields_of r (list (items_of (trimmed ys)))) (code_taken r.code r.name)) ∙
    record_again r.code r.name r.takes ys a

-- the item of the one with this code is taken as it is
pub choice_again : (table : List Row) (code : ℕ) (r : Row) (ys : List Item) → row_coded table code ≡ Some r
    → r.code ≡ code → EachAgain r.takes ys → choice_taken table (record_item code ys) ≡ Some (record_item code ys)
unfolding choice_taken row_said
choice_again table code r ys e same a =
    ap (λ (o : Option Row). o >>= λ s. fields_of s (list (items_of (trimmed ys)))) e
    ∙ (fields_again r ys a ∙ ap (λ (c : ℕ). Some (record_item c ys)) same)

-- null is none of them
pub choice_absent : (table : List Row) → choice_taken table (scalar null) ≡ None
unfolding choice_taken
choice_absent table = refl

-- none of them is read as null
pub choice_present : (code : ℕ) (ys : List Item) → reads_as_null (record_item code ys) ≡ false
choice_present code ys = refl

-- two composite types have two items
pub codes_apart : (a b : ℕ) (xs ys : List Item) → record_item a xs ≡ record_item b ys → a ≡ b
codes_apart a b xs ys e = cc

same_code : (a b : ℕ) (v w : Item) → described (scalar (ulong a)) v ≡ described (scalar (ulong b)) w → a ≡ b
same_code a b v w e = cc

own_number : (a b : ℕ) → (a == b) ≡ false → a ≡ b → ⊥
own_number a b n e = grind (arith, nat_tests)

-- items with two codes are not the same
pub items_apart : (a b : ℕ) (v w : Item) → (a == b) ≡ false
    → described (scalar (ulong a)) v ≡ described (scalar (ulong b)) w → ⊥
items_apart a b v w n e = own_number a b n (same_code a b v w e)
