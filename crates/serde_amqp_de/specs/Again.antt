-- A value's item is taken as that value, and says which value it is.
use Rattle.std.proofs.Common.{◌≡◌, ◌≢◌, ℕ, List, [], ◌∷◌, length, map, Bool, true, false, Option, Some, None, sym, ◌∙◌}
use Rattle.std.proofs.Common.{ap, refl, arith}
use Rattle.std.specs.Prelude.{◌==◌, ◌&&◌, if◌then◌else◌, ℤ}
use Rattle.std.proofs.lemmas.Bool.Decides.{nat_tests}
use Rattle.serde_amqp_item.specs.declared.floats.Float.{Float}
use Rattle.serde_amqp_item.specs.declared.floats.Double.{Double}
use Rattle.serde_amqp_item.specs.Item.{Item, scalar, raw, null, boolean, ubyte, ushort, uint, ulong, byte, short, int}
use Rattle.serde_amqp_item.specs.Item.{long, float, double, char, list, array, items_of, no_items}
use Rattle.serde_amqp_item.specs.Canon.{◌>>=◌}
use Rattle.serde_amqp_item.specs.Kind.{null_kind}
use Rattle.serde_amqp_item.specs.Record.{is_null, option_item, all_null, trimmed, record_item}
use Rattle.serde_amqp_de.specs.Takes.{option_taken, mapped, or_null, is_boolean, is_ushort, is_uint, kind_seen}
use Rattle.serde_amqp_de.specs.Takes.{is_null_kind, reads_as_null, each_taken, sequence_taken, elements_taken, several}
use Rattle.serde_amqp_de.specs.Takes.{multiple_taken, fields_taken, row_taken, tuple_taken, descriptor_taken}
use Rattle.serde_amqp_de.specs.Takes.{record_taken}
use Rattle.serde_amqp_de.specs.Apart.{items_of_same}
use Rattle.serde_amqp_de.specs.Deciding.{option_same}

pub boolean_faithful : (x y : Bool) → scalar (boolean x) ≡ scalar (boolean y) → x ≡ y
boolean_faithful x y e = cc

pub ushort_faithful : (x y : ℕ) → scalar (ushort x) ≡ scalar (ushort y) → x ≡ y
ushort_faithful x y e = cc

pub uint_faithful : (x y : ℕ) → scalar (uint x) ≡ scalar (uint y) → x ≡ y
uint_faithful x y e = cc

pub ulong_faithful : (x y : ℕ) → scalar (ulong x) ≡ scalar (ulong y) → x ≡ y
ulong_faithful x y e = cc

pub ubyte_faithful : (x y : ℕ) → scalar (ubyte x) ≡ scalar (ubyte y) → x ≡ y
ubyte_faithful x y e = cc

pub byte_faithful : (x y : ℤ) → scalar (byte x) ≡ scalar (byte y) → x ≡ y
byte_faithful x y e = cc

pub short_faithful : (x y : ℤ) → scalar (short x) ≡ scalar (short y) → x ≡ y
short_faithful x y e = cc

pub int_faithful : (x y : ℤ) → scalar (int x) ≡ scalar (int y) → x ≡ y
int_faithful x y e = cc

pub long_faithful : (x y : ℤ) → scalar (long x) ≡ scalar (long y) → x ≡ y
long_faithful x y e = cc

pub char_faithful : (x y : ℕ) → scalar (char x) ≡ scalar (char y) → x ≡ y
char_faithful x y e = cc

pub float_faithful : (x y : Float) → scalar (float x.0) ≡ scalar (float y.0) → x ≡ y
float_faithful x y e = let bits : x.0 ≡ y.0 = cc in ap (λ (n : ℕ). record { 0 = n }) bits

pub double_faithful : (x y : Double) → scalar (double x.0) ≡ scalar (double y.0) → x ≡ y
double_faithful x y e = let bits : x.0 ≡ y.0 = cc in ap (λ (n : ℕ). record { 0 = n }) bits

-- an item that isn't read as null is not seen to be
pub not_seen_null : (x : Item) → reads_as_null x ≡ false → kind_seen x ≢ Some null_kind
not_seen_null (raw text) n = λ e. let w = ap is_null_kind e in absurd cc
not_seen_null (scalar null) n = absurd cc
not_seen_null (scalar s) n = λ e. cc
not_seen_null x n = λ e. cc

pub option_again : {X : Type 0} (take : Item → Option Item) (item : X → Item)
    → ((x : X) → take (item x) ≡ Some (item x)) → ((x : X) → reads_as_null (item x) ≡ false) → (o : Option X)
    → option_taken take (option_item item o) ≡ Some (option_item item o)
unfolding option_taken
option_again take item again present None = refl
option_again take item again present (Some x) = option_same take (item x) (not_seen_null (item x) (present x)) ∙ again x

pub option_faithful : {X : Type 0} (item : X → Item) → ((x y : X) → item x ≡ item y → x ≡ y)
    → ((x : X) → reads_as_null (item x) ≡ false) → (o p : Option X) → option_item item o ≡ option_item item p → o ≡ p
option_faithful item faithful present None None e = refl
option_faithful item faithful present None (Some y) e = let w = present y in let z = ap reads_as_null e in absurd cc
option_faithful item faithful present (Some x) None e = let w = present x in let z = ap reads_as_null e in absurd cc
option_faithful {X} item faithful present (Some x) (Some y) e = ap (λ (z : X). Some z) (faithful x y e)

-- what is written of a value is its item, so it is of an optional one and of several
pub option_same_item : {X : Type 0} (written item : X → Item) → ((x : X) → written x ≡ item x) → (o : Option X)
    → option_item written o ≡ option_item item o
option_same_item written item same None = refl
option_same_item written item same (Some x) = same x

pub map_same_item : {X : Type 0} (written item : X → Item) → ((x : X) → written x ≡ item x) → (xs : List X)
    → map written xs ≡ map item xs
map_same_item written item same [] = refl
map_same_item written item same (x ∷ xs) =
    ap (λ (y : Item). y ∷ map written xs) (same x) ∙ ap (λ (ys : List Item). item x ∷ ys)
    (map_same_item written item same xs)

pub list_same_item : {X : Type 0} (written item : X → Item) → ((x : X) → written x ≡ item x) → (xs : List X)
    → list (items_of (map written xs)) ≡ list (items_of (map item xs))
list_same_item written item same xs = ap (λ (ys : List Item). list (items_of ys)) (map_same_item written item same xs)

pub array_same_item : {X : Type 0} (written item : X → Item) → ((x : X) → written x ≡ item x) → (xs : List X)
    → array (items_of (map written xs)) ≡ array (items_of (map item xs))
array_same_item written item same xs = ap (λ (ys : List Item). array (items_of ys)) (map_same_item written item same xs)

pub several_same_item : {X : Type 0} (written item : X → Item) → ((x : X) → written x ≡ item x) → (xs : List X)
    → several (map written xs) ≡ several (map item xs)
several_same_item written item same xs = ap several (map_same_item written item same xs)

-- each field is taken as it is
abbrev pub EachAgain : List (Item → Option Item) → List Item → Type 0
EachAgain [] [] = Unit {0}
EachAgain [] (y ∷ ys) = ⊥
EachAgain (take ∷ takes) [] = ⊥
EachAgain (take ∷ takes) (y ∷ ys) = (take y ≡ Some y) × EachAgain takes ys

null_is : (y : Item) → is_null y ≡ true → y ≡ scalar null
null_is (scalar null) e = refl
null_is (scalar s) e = absurd cc
null_is y e = absurd cc

both_true : (a b : Bool) → (a && b) ≡ true → (a ≡ true) × (b ≡ true)
both_true true b e = (refl, e)
both_true false b e = absurd cc

-- fields that are all null may be left off
nulls_again : (takes : List (Item → Option Item)) (ys : List Item) → EachAgain takes ys → all_null ys ≡ true
    → fields_taken takes no_items ≡ Some ys
nulls_again [] [] a e = refl
nulls_again [] (y ∷ ys) a e = absurd a
nulls_again (take ∷ takes) [] a e = absurd a
nulls_again (take ∷ takes) (y ∷ ys) a e =
    let b = both_true (is_null y) (all_null ys) e in
    let is : y ≡ scalar null = null_is y b.0 in
    let here : take (scalar null) ≡ Some y = ap take (sym is) ∙ a.0 in
    ap (λ (o : Option Item). o >>= λ z. fields_taken takes no_items >>= λ zs. Some (z ∷ zs)) here
    ∙ ap (λ (o : Option (List Item)). o >>= λ zs. Some (y ∷ zs)) (nulls_again takes ys a.1 b.1)

kept_again : (take : Item → Option Item) (takes : List (Item → Option Item)) (y : Item) (ys : List Item)
    → EachAgain (take ∷ takes) (y ∷ ys) → fields_taken takes (items_of (trimmed ys)) ≡ Some ys → (b : Bool)
    → all_null (y ∷ ys) ≡ b → fields_taken (take ∷ takes) (items_of (if b then [] else (y ∷ trimmed ys)))
    ≡ Some (y ∷ ys)
kept_again take takes y ys a f true e = nulls_again (take ∷ takes) (y ∷ ys) a e
kept_again take takes y ys a f false e =
    ap (λ (o : Option Item). o >>= λ z. fields_taken takes (items_of (trimmed ys)) >>= λ zs. Some (z ∷ zs)) a.0
    ∙ ap (λ (o : Option (List Item)). o >>= λ zs. Some (y ∷ zs)) f

-- with the nulls at the end left off the fields are taken as they are
fields_again : (takes : List (Item → Option Item)) (ys : List Item) → EachAgain takes ys
    → fields_taken takes (items_of (trimmed ys)) ≡ Some ys
fields_again [] [] a = refl
fields_again [] (y ∷ ys) a = absurd a
fields_again (take ∷ takes) [] a = absurd a
fields_again (take ∷ takes) (y ∷ ys) a =
    kept_again take takes y ys a (fields_again takes ys a.1) (all_null (y ∷ ys)) refl

same_number : (n : ℕ) → (n == n) ≡ true
same_number n = grind (arith, nat_tests)

code_again : (code : ℕ) (name : List ℕ) → descriptor_taken code name (scalar (ulong code)) ≡ Some (scalar (ulong code))
unfolding descriptor_taken
code_again code name = rw (same_number code) refl

-- a record is taken as it is
pub record_again : (code : ℕ) (name : List ℕ) (takes : List (Item → Option Item)) (ys : List Item) → EachAgain takes ys
    → record_taken code name takes (record_item code ys) ≡ Some (record_item code ys)
unfolding record_taken
record_again code name takes ys a =
    ap (λ (o : Option Item). o >>= λ c. fields_taken takes (items_of (trimmed ys)) >>= λ zs. Some (record_item code zs))
    (code_again code name)
    ∙ ap (λ (o : Option (List Item)). o >>= λ zs. Some (record_item code zs)) (fields_again takes ys a)

-- as many fields that are all null
nulls_same : (xs ys : List Item) → length xs ≡ length ys → all_null xs ≡ true → all_null ys ≡ true → xs ≡ ys
nulls_same [] [] l e f = refl
nulls_same [] (y ∷ ys) l e f = absurd (omega arith)
nulls_same (x ∷ xs) [] l e f = absurd (omega arith)
nulls_same (x ∷ xs) (y ∷ ys) l e f =
    let a = both_true (is_null x) (all_null xs) e in
    let b = both_true (is_null y) (all_null ys) f in
    let lens : length xs ≡ length ys = omega arith in
    let first : x ≡ y = null_is x a.0 ∙ sym (null_is y b.0) in
    let others : xs ≡ ys = nulls_same xs ys lens a.1 b.1 in
    cc

trimmed_by : (x y : Item) (xs ys : List Item) → length (x ∷ xs) ≡ length (y ∷ ys) → (trimmed xs ≡ trimmed ys → xs ≡ ys)
    → (a b : Bool) → all_null (x ∷ xs) ≡ a → all_null (y ∷ ys) ≡ b
    → (if a then [] else (x ∷ trimmed xs)) ≡ (if b then [] else (y ∷ trimmed ys)) → x ∷ xs ≡ y ∷ ys
trimmed_by x y xs ys l same true true e f t = nulls_same (x ∷ xs) (y ∷ ys) l e f
trimmed_by x y xs ys l same true false e f t = absurd cc
trimmed_by x y xs ys l same false true e f t = absurd cc
trimmed_by x y xs ys l same false false e f t =
    let first : x ≡ y = cc in
    let tails : trimmed xs ≡ trimmed ys = cc in
    let others : xs ≡ ys = same tails in
    cc

trimmed_same : (xs ys : List Item) → length xs ≡ length ys → trimmed xs ≡ trimmed ys → xs ≡ ys
trimmed_same [] [] l e = refl
trimmed_same [] (y ∷ ys) l e = absurd (omega arith)
trimmed_same (x ∷ xs) [] l e = absurd (omega arith)
trimmed_same (x ∷ xs) (y ∷ ys) l e =
    let lens : length xs ≡ length ys = omega arith in
    trimmed_by x y xs ys l (λ t. trimmed_same xs ys lens t) (all_null (x ∷ xs)) (all_null (y ∷ ys)) refl refl e

-- a record says its fields
pub record_faithful : (code : ℕ) (xs ys : List Item) → length xs ≡ length ys → record_item code xs ≡ record_item code ys
    → xs ≡ ys
record_faithful code xs ys l e =
    let inner : items_of (trimmed xs) ≡ items_of (trimmed ys) = cc in
    trimmed_same xs ys l (items_of_same (trimmed xs) (trimmed ys) inner)

-- a field with a default
same_if : (b : Bool) (x : Item) → (if b then x else x) ≡ x
same_if true x = refl
same_if false x = refl

default_by : (is_default : Item → Bool) (take : Item → Option Item) (y : Item) → take y ≡ Some y
    → reads_as_null y ≡ false → (b : Bool) → is_default y ≡ b
    → mapped (or_null is_default) (option_taken take) (if b then scalar null else y)
    ≡ Some (if b then scalar null else y)
unfolding mapped option_taken
default_by is_default take y again present true e =
    ap (λ (x : Item). Some x) (same_if (is_default (scalar null)) (scalar null))
default_by is_default take y again present false e =
    ap (λ (o : Option Item). o >>= λ z. Some (or_null is_default z))
    (option_same take y (not_seen_null y present) ∙ again) ∙ rw e refl

pub default_again : (is_default : Item → Bool) (take : Item → Option Item) (y : Item) → take y ≡ Some y
    → reads_as_null y ≡ false → mapped (or_null is_default) (option_taken take) (or_null is_default y)
    ≡ Some (or_null is_default y)
default_again is_default take y again present = default_by is_default take y again present (is_default y) refl

null_reads : (y : Item) → scalar null ≡ y → reads_as_null y ≡ false → ⊥
null_reads y e p = let w = ap reads_as_null e in absurd cc

faithful_by : (x y : Item) (is_default : Item → Bool) → (is_default x ≡ true → is_default y ≡ true → x ≡ y)
    → reads_as_null x ≡ false → reads_as_null y ≡ false → (a b : Bool) → is_default x ≡ a → is_default y ≡ b
    → (if a then scalar null else x) ≡ (if b then scalar null else y) → x ≡ y
faithful_by x y is_default one p q true true e f s = one e f
faithful_by x y is_default one p q true false e f s = absurd (null_reads y s q)
faithful_by x y is_default one p q false true e f s = absurd (null_reads x (sym s) p)
faithful_by x y is_default one p q false false e f s = s

pub default_faithful : (is_default : Item → Bool) (x y : Item) → (is_default x ≡ true → is_default y ≡ true → x ≡ y)
    → reads_as_null x ≡ false → reads_as_null y ≡ false → or_null is_default x ≡ or_null is_default y → x ≡ y
default_faithful is_default x y one p q e = faithful_by x y is_default one p q (is_default x) (is_default y) refl refl e

equal_numbers : (n d : ℕ) → (n == d) ≡ true → n ≡ d
equal_numbers n d e = grind (arith, nat_tests)

pub one_uint : (d m n : ℕ) → is_uint d (scalar (uint m)) ≡ true → is_uint d (scalar (uint n)) ≡ true
    → scalar (uint m) ≡ scalar (uint n)
one_uint d m n e f = ap (λ (i : ℕ). scalar (uint i)) (equal_numbers m d e ∙ sym (equal_numbers n d f))

pub one_ushort : (d m n : ℕ) → is_ushort d (scalar (ushort m)) ≡ true → is_ushort d (scalar (ushort n)) ≡ true
    → scalar (ushort m) ≡ scalar (ushort n)
one_ushort d m n e f = ap (λ (i : ℕ). scalar (ushort i)) (equal_numbers m d e ∙ sym (equal_numbers n d f))

pub one_boolean : (d m n : Bool) → is_boolean d (scalar (boolean m)) ≡ true → is_boolean d (scalar (boolean n)) ≡ true
    → scalar (boolean m) ≡ scalar (boolean n)
one_boolean true true true e f = refl
one_boolean true true false e f = absurd cc
one_boolean true false n e f = absurd cc
one_boolean false false false e f = refl
one_boolean false false true e f = absurd cc
one_boolean false true n e f = absurd cc

-- several values
pub each_again : {X : Type 0} (take : Item → Option Item) (item : X → Item) → ((x : X) → take (item x) ≡ Some (item x))
    → (xs : List X) → each_taken take (items_of (map item xs)) ≡ Some (map item xs)
each_again take item again [] = refl
each_again take item again (x ∷ xs) =
    ap (λ (o : Option Item). o >>= λ y. each_taken take (items_of (map item xs)) >>= λ ys. Some (y ∷ ys)) (again x)
    ∙ ap (λ (o : Option (List Item)). o >>= λ ys. Some (item x ∷ ys)) (each_again take item again xs)

pub sequence_again : {X : Type 0} (take : Item → Option Item) (item : X → Item)
    → ((x : X) → take (item x) ≡ Some (item x)) → (xs : List X)
    → sequence_taken take (list (items_of (map item xs))) ≡ Some (list (items_of (map item xs)))
unfolding sequence_taken
sequence_again take item again xs =
    ap (λ (o : Option (List Item)). o >>= λ ys. Some (list (items_of ys))) (each_again take item again xs)

pub elements_again : {X : Type 0} (take : Item → Option Item) (item : X → Item)
    → ((x : X) → take (item x) ≡ Some (item x)) → (xs : List X)
    → elements_taken take (array (items_of (map item xs))) ≡ Some (array (items_of (map item xs)))
unfolding elements_taken
elements_again take item again xs =
    ap (λ (o : Option (List Item)). o >>= λ ys. Some (array (items_of ys))) (each_again take item again xs)

pub multiple_again : {X : Type 0} (take : Item → Option Item) (item : X → Item)
    → ((x : X) → take (item x) ≡ Some (item x)) → (xs : List X)
    → multiple_taken take (several (map item xs)) ≡ Some (several (map item xs))
unfolding multiple_taken
multiple_again take item again [] = refl
multiple_again take item again (x ∷ xs) =
    ap (λ (o : Option (List Item)). o >>= λ ys. Some (several ys)) (each_again take item again (x ∷ xs))

pub map_faithful : {X : Type 0} (item : X → Item) → ((x y : X) → item x ≡ item y → x ≡ y) → (xs ys : List X)
    → map item xs ≡ map item ys → xs ≡ ys
map_faithful item faithful [] [] e = refl
map_faithful item faithful [] (y ∷ ys) e = absurd cc
map_faithful item faithful (x ∷ xs) [] e = absurd cc
map_faithful {X} item faithful (x ∷ xs) (y ∷ ys) e =
    let head : item x ≡ item y = cc in
    let tail : map item xs ≡ map item ys = cc in
    let first : x ≡ y = faithful x y head in
    let others : xs ≡ ys = map_faithful item faithful xs ys tail in
    ap (λ (z : X). z ∷ xs) first ∙ ap (λ (zs : List X). y ∷ zs) others

pub list_faithful : {X : Type 0} (item : X → Item) → ((x y : X) → item x ≡ item y → x ≡ y) → (xs ys : List X)
    → list (items_of (map item xs)) ≡ list (items_of (map item ys)) → xs ≡ ys
list_faithful item faithful xs ys e =
    let inner : items_of (map item xs) ≡ items_of (map item ys) = cc in
    map_faithful item faithful xs ys (items_of_same (map item xs) (map item ys) inner)

pub array_faithful : {X : Type 0} (item : X → Item) → ((x y : X) → item x ≡ item y → x ≡ y) → (xs ys : List X)
    → array (items_of (map item xs)) ≡ array (items_of (map item ys)) → xs ≡ ys
array_faithful item faithful xs ys e =
    let inner : items_of (map item xs) ≡ items_of (map item ys) = cc in
    map_faithful item faithful xs ys (items_of_same (map item xs) (map item ys) inner)

pub several_faithful : {X : Type 0} (item : X → Item) → ((x y : X) → item x ≡ item y → x ≡ y) → (xs ys : List X)
    → several (map item xs) ≡ several (map item ys) → xs ≡ ys
several_faithful item faithful [] [] e = refl
several_faithful item faithful [] (y ∷ ys) e = absurd cc
several_faithful item faithful (x ∷ xs) [] e = absurd cc
several_faithful item faithful (x ∷ xs) (y ∷ ys) e = array_faithful item faithful (x ∷ xs) (y ∷ ys) e

-- tuples
abbrev pub EachSame : List Item → List Item → Type 0
EachSame [] [] = Unit {0}
EachSame [] (y ∷ ys) = ⊥
EachSame (x ∷ xs) [] = ⊥
EachSame (x ∷ xs) (y ∷ ys) = (x ≡ y) × EachSame xs ys

each_same : (xs ys : List Item) → EachSame xs ys → xs ≡ ys
each_same [] [] e = refl
each_same [] (y ∷ ys) e = absurd e
each_same (x ∷ xs) [] e = absurd e
each_same (x ∷ xs) (y ∷ ys) e = ap (λ (z : Item). z ∷ xs) e.0 ∙ ap (λ (zs : List Item). y ∷ zs) (each_same xs ys e.1)

pub tuple_same_item : (xs ys : List Item) → EachSame xs ys → list (items_of xs) ≡ list (items_of ys)
tuple_same_item xs ys e = ap (λ (zs : List Item). list (items_of zs)) (each_same xs ys e)

row_again : (takes : List (Item → Option Item)) (ys : List Item) → EachAgain takes ys
    → row_taken takes (items_of ys) ≡ Some ys
row_again [] [] a = refl
row_again [] (y ∷ ys) a = absurd a
row_again (take ∷ takes) [] a = absurd a
row_again (take ∷ takes) (y ∷ ys) a =
    ap (λ (o : Option Item). o >>= λ z. row_taken takes (items_of ys) >>= λ zs. Some (z ∷ zs)) a.0
    ∙ ap (λ (o : Option (List Item)). o >>= λ zs. Some (y ∷ zs)) (row_again takes ys a.1)

pub tuple_again : (takes : List (Item → Option Item)) (ys : List Item) → EachAgain takes ys
    → tuple_taken takes (list (items_of ys)) ≡ Some (list (items_of ys))
unfolding tuple_taken
tuple_again takes ys a = ap (λ (o : Option (List Item)). o >>= λ zs. Some (list (items_of zs))) (row_again takes ys a)

pub one_faithful : {A : Type 0} (f : A → Item) → ((x y : A) → f x ≡ f y → x ≡ y) → (p q : record { 0 : A })
    → list (items_of (f p.0 ∷ [])) ≡ list (items_of (f q.0 ∷ [])) → p ≡ q
one_faithful {A} f one p q e =
    let a : f p.0 ≡ f q.0 = cc in
    ap (λ (x : A). record { 0 = x }) (one p.0 q.0 a)

pub two_faithful : {A B : Type 0} (f : A → Item) (g : B → Item) → ((x y : A) → f x ≡ f y → x ≡ y)
    → ((x y : B) → g x ≡ g y → x ≡ y) → (p q : A × B)
    → list (items_of (f p.0 ∷ g p.1 ∷ [])) ≡ list (items_of (f q.0 ∷ g q.1 ∷ [])) → p ≡ q
two_faithful {A} {B} f g one two p q e =
    let a : f p.0 ≡ f q.0 = cc in
    let b : g p.1 ≡ g q.1 = cc in
    ap (λ (x : A). (x, p.1)) (one p.0 q.0 a) ∙ ap (λ (y : B). (q.0, y)) (two p.1 q.1 b)

pub three_faithful : {A B C : Type 0} (f : A → Item) (g : B → Item) (h : C → Item) → ((x y : A) → f x ≡ f y → x ≡ y)
    → ((x y : B) → g x ≡ g y → x ≡ y) → ((x y : C) → h x ≡ h y → x ≡ y) → (p q : A × B × C)
    → list (items_of (f p.0 ∷ g p.1 ∷ h p.2 ∷ [])) ≡ list (items_of (f q.0 ∷ g q.1 ∷ h q.2 ∷ [])) → p ≡ q
three_faithful {A} {B} {C} f g h one two three p q e =
    let a : f p.0 ≡ f q.0 = cc in
    let b : g p.1 ≡ g q.1 = cc in
    let c : h p.2 ≡ h q.2 = cc in
    ap (λ (x : A). (x, p.1, p.2)) (one p.0 q.0 a) ∙
    (ap (λ (y : B). (q.0, y, p.2)) (two p.1 q.1 b) ∙ ap (λ (z : C). (q.0, q.1, z)) (three p.2 q.2 c))

pub four_faithful : {A B C D : Type 0} (f : A → Item) (g : B → Item) (h : C → Item) (i : D → Item)
    → ((x y : A) → f x ≡ f y → x ≡ y) → ((x y : B) → g x ≡ g y → x ≡ y) → ((x y : C) → h x ≡ h y → x ≡ y)
    → ((x y : D) → i x ≡ i y → x ≡ y) → (p q : A × B × C × D)
    → list (items_of (f p.0 ∷ g p.1 ∷ h p.2 ∷ i p.3 ∷ [])) ≡ list (items_of (f q.0 ∷ g q.1 ∷ h q.2 ∷ i q.3 ∷ []))
    → p ≡ q
four_faithful {A} {B} {C} {D} f g h i one two three four p q e =
    let a : f p.0 ≡ f q.0 = cc in
    let b : g p.1 ≡ g q.1 = cc in
    let c : h p.2 ≡ h q.2 = cc in
    let d : i p.3 ≡ i q.3 = cc in
    ap (λ (x : A). (x, p.1, p.2, p.3)) (one p.0 q.0 a) ∙
    (ap (λ (y : B). (q.0, y, p.2, p.3)) (two p.1 q.1 b) ∙
    (ap (λ (z : C). (q.0, q.1, z, p.3)) (three p.2 q.2 c) ∙ ap (λ (w : D). (q.0, q.1, q.2, w)) (four p.3 q.3 d)))
