-- Forms of any so many bytes each.
use Rattle.std.proofs.Common.{◌≡◌, ◌≢◌, ℕ, zero, suc, ◌+◌, ◌*◌, ◌<◌, ◌≤◌, List, [], ◌∷◌, ◌++◌, length, take, drop, take-append-drop, length-take-le, Option, Some, None, Bool, false, sym, ◌∙◌, ap, subst, refl, arith, length-append}
use Rattle.std.specs.Prelude.{◌==◌, if◌then◌else◌}
use Rattle.serde_amqp_item.specs.declared.codes.EncodingCodes.{EncodingCodes}
use Rattle.serde_amqp_item.specs.declared.codes.EncodingCodes.TheVariants.{DescribedType, Null, BooleanTrue, BooleanFalse, Boolean, UByte, UShort, UInt, SmallUInt, UInt0, ULong, SmallULong, ULong0, Byte, Short, Int, SmallInt, Long, SmallLong, Float, Double, Decimal32, Decimal64, Decimal128, Char, Timestamp, Uuid, Vbin8, Vbin32, Str8, Str32, Sym8, Sym32, List0, List8, List32, Map8, Map32, Array8, Array32}
use Rattle.serde_amqp_item.specs.Item.{Scalar, Item, scalar, raw, list, map, array, described, Items, no_items, more_items, item_count}
use Rattle.serde_amqp_item.specs.Wire.{Row, fixed, empty_list, row_at, row_of, code_of, Forms, AnyCount, NoRaw}
use Rattle.serde_amqp_item.proofs.Forms.{no_raw_form}
use Rattle.serde_amqp_item.proofs.Constructors.{row_of_code}
use Rattle.serde_amqp_read.specs.Pending.{Place, Taken, Ends, Held, Finishes, Unfinished, plain_at, plain_behind, plain_width, NeedsBytes}
use Rattle.serde_amqp_read.specs.declared.measure.Frame.{Frame}
use Rattle.serde_amqp_read.proofs.Opened.{AForm}

pub finishes : (f : Frame) (width count : ℕ) (old new : Place) → Taken count old new → count ≡ f.left * width → Ends f.end (length new.taken) → Finishes f width old new
finishes f width count old new t c e = record { front = t.front; moves = t.moves; long = t.long ∙ c; ends = e }

pub unfinished_short : (f : Frame) (width count : ℕ) (old : Place) → length old.rest < count → count ≡ f.left * width → Unfinished f width old
unfinished_short f width count old s c = record { none = λ front more e l z. absurd (omega (arith, ap length e, length-append front more, l ∙ sym c, s)) }

ends_elsewhere : (f : Frame) (width count at : ℕ) (old new : Place) → Taken count old new → count ≡ f.left * width → f.end ≡ Some at → at ≢ length new.taken → (n : ℕ) → n ≡ f.left * width → Ends f.end (length old.taken + n) → ⊥
ends_elsewhere f width count at old new t c e n i l z =
    let there : Ends (Some at) (length old.taken + i) = subst (λ (o : Option ℕ). Ends o (length old.taken + i)) e z in
    let same : i ≡ length t.front = l ∙ sym (t.long ∙ c) in
    absurd (n (sym (ap length t.moves.joined ∙ (length-append old.taken t.front ∙ (ap (λ (j : ℕ). length old.taken + j) (sym same) ∙ there)))))

pub unfinished_elsewhere : (f : Frame) (width count at : ℕ) (old new : Place) → Taken count old new → count ≡ f.left * width → f.end ≡ Some at → at ≢ length new.taken → Unfinished f width old
unfinished_elsewhere f width count at old new t c e n = record { none = λ front more z l i. ends_elsewhere f width count at old new t c e n (length front) l i }

pub ruleset finishing = (finishes, unfinished_short, unfinished_elsewhere)

-- the forms of a row that are all of so many bytes
pub record PlainRow (n : ℕ) (r : Row) : Type 0 where
  pub one : (a : List ℕ) → length a ≡ n → (x : Item) × AForm x None r a
  pub long : (x : Item) (a : List ℕ) → AForm x None r a → length a ≡ n

fixed_long : (n : ℕ) (read : List ℕ → Option Scalar) (x : Item) (a : List ℕ) → AForm x None (fixed n read) a → length a ≡ n
fixed_long n read (raw text) a f = absurd (no_raw_form AnyCount text None (fixed n read) a f)
fixed_long n read (scalar s) a f = f.0
fixed_long n read (list xs) a f = absurd f
fixed_long n read (map ps) a f = absurd f
fixed_long n read (array xs) a f = absurd f
fixed_long n read (described d v) a f = absurd f

plain_fixed : (m n : ℕ) (mk : List ℕ → Scalar) → Some m ≡ Some n → PlainRow n (fixed m (λ bs. Some (mk bs)))
plain_fixed m n mk e =
    let same : m ≡ n = cc in
    record { one = λ a l. (scalar (mk a), (l ∙ sym same, refl)); long = λ x a f. fixed_long m (λ bs. Some (mk bs)) x a f ∙ same }

empty_long : (x : Item) (a : List ℕ) → AForm x None empty_list a → length a ≡ 0
empty_long (raw text) a f = absurd (no_raw_form AnyCount text None empty_list a f)
empty_long (scalar s) a f = absurd f
empty_long (list xs) a f = ap length f.1
empty_long (map ps) a f = absurd f
empty_long (array xs) a f = absurd f
empty_long (described d v) a f = absurd f

empty_of : (a : List ℕ) → length a ≡ 0 → a ≡ []
empty_of [] e = refl
empty_of (b ∷ a) e = absurd (omega arith)

plain_empty : (n : ℕ) → Some 0 ≡ Some n → PlainRow n empty_list
plain_empty n e =
    let same : 0 ≡ n = cc in
    record { one = λ a l. (list no_items, (refl, empty_of a (l ∙ sym same))); long = λ x a f. empty_long x a f ∙ same }

pub plain_row : (code : EncodingCodes) (n : ℕ) → plain_at (Some code) ≡ Some n → PlainRow n (row_at (Some code))
plain_row List0 n e = plain_empty n e
plain_row Null n e = plain_fixed 0 n _ e
plain_row BooleanTrue n e = plain_fixed 0 n _ e
plain_row BooleanFalse n e = plain_fixed 0 n _ e
plain_row UByte n e = plain_fixed 1 n _ e
plain_row UShort n e = plain_fixed 2 n _ e
plain_row UInt n e = plain_fixed 4 n _ e
plain_row SmallUInt n e = plain_fixed 1 n _ e
plain_row UInt0 n e = plain_fixed 0 n _ e
plain_row ULong n e = plain_fixed 8 n _ e
plain_row SmallULong n e = plain_fixed 1 n _ e
plain_row ULong0 n e = plain_fixed 0 n _ e
plain_row Byte n e = plain_fixed 1 n _ e
plain_row Short n e = plain_fixed 2 n _ e
plain_row Int n e = plain_fixed 4 n _ e
plain_row SmallInt n e = plain_fixed 1 n _ e
plain_row Long n e = plain_fixed 8 n _ e
plain_row SmallLong n e = plain_fixed 1 n _ e
plain_row Float n e = plain_fixed 4 n _ e
plain_row Double n e = plain_fixed 8 n _ e
plain_row Decimal32 n e = plain_fixed 4 n _ e
plain_row Decimal64 n e = plain_fixed 8 n _ e
plain_row Decimal128 n e = plain_fixed 16 n _ e
plain_row Timestamp n e = plain_fixed 8 n _ e
plain_row Uuid n e = plain_fixed 16 n _ e
plain_row DescribedType n e = absurd cc
plain_row Boolean n e = absurd cc
plain_row Char n e = absurd cc
plain_row Vbin8 n e = absurd cc
plain_row Vbin32 n e = absurd cc
plain_row Str8 n e = absurd cc
plain_row Str32 n e = absurd cc
plain_row Sym8 n e = absurd cc
plain_row Sym32 n e = absurd cc
plain_row List8 n e = absurd cc
plain_row List32 n e = absurd cc
plain_row Map8 n e = absurd cc
plain_row Map32 n e = absurd cc
plain_row Array8 n e = absurd cc
plain_row Array32 n e = absurd cc

row_behind : (d n : ℕ) (code : Option EncodingCodes) → code_of d ≡ code → plain_at code ≡ Some n → PlainRow n (row_of d)
row_behind d n None c e = absurd cc
row_behind d n (Some k) c e = subst (PlainRow n) (sym (row_of_code d (Some k) c)) (plain_row k n e)

-- so many of them are so many bytes
forms_in : (d n : ℕ) → PlainRow n (row_of d) → (count : ℕ) (bytes : List ℕ) → length bytes ≡ count * n → (xs : Items) × Forms AnyCount NoRaw xs (Some d) bytes × (item_count xs ≡ count)
forms_in d n p zero bytes l = (no_items, empty_of bytes (omega (arith, l)), refl)
forms_in d n p (suc count) bytes l =
    let all : length bytes ≡ n + count * n = omega (arith, l) in
    let within : n ≤ length bytes = omega (arith, all) in
    let parts : take n bytes ++ drop n bytes ≡ bytes = take-append-drop n bytes in
    let long = length-take-le n bytes within in
    let others = forms_in d n p count (drop n bytes) (omega (arith, all, long, ap length parts, length-append (take n bytes) (drop n bytes))) in
    let first = p.one (take n bytes) long in
    (more_items first.0 others.0, (d, take n bytes, drop n bytes, (refl, sym parts), first.1, others.1), omega (arith, others.2))

forms_long : (d n : ℕ) → PlainRow n (row_of d) → (xs : Items) (bytes : List ℕ) → Forms AnyCount NoRaw xs (Some d) bytes → length bytes ≡ item_count xs * n
forms_long d n p no_items bytes f = omega (arith, ap length f)
forms_long d n p (more_items x xs) bytes f =
    let same : f.0 ≡ d = f.3.0 in
    let one = p.long x f.1 (subst (λ (i : ℕ). AForm x None (row_of i) f.1) same f.4) in
    let others = forms_long d n p xs f.2 f.5 in
    omega (arith, ap length f.3.1, length-append f.1 f.2, one, others)

abbrev frame : ℕ → Option ℕ → Option ℕ → Frame
frame left inherited end = record { left = left; inherited = inherited; end = end }

none_in : (xs : Items) (k : Option ℕ) (bytes : List ℕ) → Forms AnyCount NoRaw xs k bytes → item_count xs ≡ 0 → bytes ≡ []
none_in no_items k bytes f e = f
none_in (more_items x xs) k bytes f e = absurd (omega (arith, e))

suc_is_not : (n : ℕ) → (suc n == 0) ≡ false
suc_is_not n = grind (arith)

width_behind : (left : ℕ) (k o : Option ℕ) → (if suc left == 0 then Some 0 else plain_behind k) ≡ o → plain_behind k ≡ o
width_behind left k o e = sym (ap (λ (b : Bool). if b then Some 0 else plain_behind k) (suc_is_not left)) ∙ e

needs_cases : (left : ℕ) (k end : Option ℕ) → plain_width (frame left k end) ≡ None → (0 < left → k ≢ Some 0) → (0 < left) × NeedsBytes k
needs_cases zero k end p s = absurd cc
needs_cases (suc left) None end p s = (omega arith, tt)
needs_cases (suc left) (Some c) end p s =
    let l : 0 < suc left = omega arith in
    (l, ((λ z. s l (ap (λ (i : ℕ). Some i) z)), width_behind left (Some c) None p))

-- a frame whose next form is entered
pub needs_bytes : (f : Frame) → plain_width f ≡ None → (0 < f.left → f.inherited ≢ Some 0) → (0 < f.left) × NeedsBytes f.inherited
needs_bytes f p s = needs_cases f.left f.inherited f.end p s

held_cases : (left : ℕ) (k end : Option ℕ) (n at : ℕ) (bytes : List ℕ) → plain_width (frame left k end) ≡ Some n → length bytes ≡ left * n → Ends end (at + length bytes) → (xs : Items) × Held (frame left k end) at xs bytes
held_cases zero k end n at bytes p l e = (no_items, (empty_of bytes (omega (arith, l)), refl, e))
held_cases (suc left) None end n at bytes p l e = let q = width_behind left None (Some n) p in absurd cc
held_cases (suc left) (Some d) end n at bytes p l e =
    let f = forms_in d n (row_behind d n (code_of d) refl (width_behind left (Some d) (Some n) p)) (suc left) bytes l in
    (f.0, (f.1, f.2, e))

long_cases : (left : ℕ) (k end : Option ℕ) (n at : ℕ) (xs : Items) (bytes : List ℕ) → plain_width (frame left k end) ≡ Some n → Held (frame left k end) at xs bytes → length bytes ≡ left * n
long_cases zero k end n at xs bytes p h = omega (arith, ap length (none_in xs k bytes h.0 h.1))
long_cases (suc left) None end n at xs bytes p h = let q = width_behind left None (Some n) p in absurd cc
long_cases (suc left) (Some d) end n at xs bytes p h =
    let f = forms_long d n (row_behind d n (code_of d) refl (width_behind left (Some d) (Some n) p)) xs bytes h.0 in
    f ∙ ap (λ (i : ℕ). i * n) h.1

-- the forms that a frame says are any so many bytes
pub held_in : (f : Frame) (n at : ℕ) (bytes : List ℕ) → plain_width f ≡ Some n → length bytes ≡ f.left * n → Ends f.end (at + length bytes) → (xs : Items) × Held f at xs bytes
held_in f n at bytes p l e = held_cases f.left f.inherited f.end n at bytes p l e

pub held_long : (f : Frame) (n at : ℕ) (xs : Items) (bytes : List ℕ) → plain_width f ≡ Some n → Held f at xs bytes → length bytes ≡ f.left * n
held_long f n at xs bytes p h = long_cases f.left f.inherited f.end n at xs bytes p h
