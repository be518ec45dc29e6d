-- The canonical text of an item is a form of it.
use Rattle.std.proofs.Common.{◌≡◌, ℕ, ◌+◌, ◌*◌, ◌<◌, ◌≤◌, ◌^◌, inl, inr, List, [], ◌∷◌, ◌++◌, length, Option, Some, None, sym, ◌∙◌, ap, subst, refl, arith, length-append, append_assoc, append-nil}
use Rattle.std.specs.Prelude.{nat_lt, ◌==◌, IsSome}
use Rattle.std.specs.Int.{w32, to_be_bytes}
use Rattle.serde_amqp_item.specs.declared.codes.EncodingCodes.{EncodingCodes}
use Rattle.serde_amqp_item.specs.declared.codes.EncodingCodes.TheVariants.{DescribedType, Null, List0, List8, List32, Map8, Map32, Array8, Array32}
use Rattle.serde_amqp_item.specs.Item.{Item, scalar, raw, list, map, array, described, Items, no_items, more_items, items_of, item_count, Pairs, no_pairs, more_pairs, pair_count}
use Rattle.serde_amqp_item.specs.Wire.{Width, one_byte, four_bytes, room, field, Row, empty_list, list_of, map_of, array_of, described_by, row_of, row_at, code_of, byte_of, IsSized, IsElementCode, ScalarForm, Form, Forms, PairForms, Wire, IsCapped, IsStrict, NoRaw, AnyCount}
use Rattle.serde_amqp_item.specs.Canon.{◌>>=◌, counted_text, counted_wide, list_text, list_wide, map_text, map_wide, array_text, array_wide, same_constructor, canon, canon_all, canon_pairs, wide, elements, elements_of, AllWithin, EachWithin, EachPairWithin, RawKept, EachRawKept, EachPairRawKept, WithoutRaw, Place, alone, first, next, placed, settled, list_placed, map_placed, array_placed}
use Rattle.serde_amqp_item.proofs.Constructors.{code_of_byte, row_of_byte}
use Rattle.serde_amqp_item.proofs.Forms.{form_same}
use Rattle.serde_amqp_item.proofs.Scalars.{below, equal, scalar_begins, scalar_stands}
pub use Rattle.serde_amqp_item.proofs.Scalars.{chosen, passed, passed_on}

pub bind_some : {A B : Type 0} (o : Option A) (f : A → Option B) (y : B) → (o >>= f) ≡ Some y → (x : A) × (o ≡ Some x) × (f x ≡ Some y)
bind_some None f y e = absurd cc
bind_some (Some x) f y e = (x, refl, e)

some_same : {A : Type 0} (x y : A) → Some x ≡ Some y → x ≡ y
some_same x y e = cc

-- what has a size and a count, behind the byte of some constructor
pub record CountedBegins (rows : Width → Row) (count : ℕ) (content bytes : List ℕ) : Type 0 where
  pub width : Width
  pub byte : ℕ
  pub behind : List ℕ
  pub begins : bytes ≡ byte ∷ behind
  pub row : row_of byte ≡ rows width
  pub fits : count < room width
  pub sized : IsSized width (field width count ++ content) behind

counted_32 : (count : ℕ) (content : List ℕ) → length content + 4 < 2 ^ 32 → IsSized four_bytes (field four_bytes count ++ content) (to_be_bytes w32 (length content + 4) ++ to_be_bytes w32 count ++ content)
counted_32 count content h =
    let size : length (to_be_bytes w32 count ++ content) ≡ length content + 4 = omega (arith, length-append (to_be_bytes w32 count) content) in
    record {
      fits = omega (arith, size, h);
      whole = append_assoc (to_be_bytes w32 (length content + 4)) (to_be_bytes w32 count) content ∙ ap (λ (k : ℕ). to_be_bytes w32 k ++ (to_be_bytes w32 count ++ content)) (sym size);
    }

pub counted_begins : (rows : Width → Row) (narrow wide : EncodingCodes) (count : ℕ) (content bytes : List ℕ) → row_at (Some narrow) ≡ rows one_byte → row_at (Some wide) ≡ rows four_bytes → count ≤ length content → counted_text (byte_of narrow) (byte_of wide) count content ≡ Some bytes → CountedBegins rows count content bytes
counted_begins rows narrow wide count content bytes n w l e =
    elim (chosen (nat_lt (length content) 255) _ _ _ e) [
      | inl h ↦
          let short : length content < 255 = below _ _ h.0 in
          record {
            width = one_byte;
            byte = byte_of narrow;
            behind = (length content + 1) ∷ count ∷ content;
            begins = sym (some_same _ _ h.1);
            row = row_of_byte narrow ∙ n;
            fits = omega arith;
            sized = record { fits = omega arith; whole = ap (λ (k : ℕ). k ∷ count ∷ content) (omega arith) };
          }
      | inr h ↦
          let p = passed (nat_lt (length content + 4) (2 ^ 32)) (byte_of wide ∷ (to_be_bytes w32 (length content + 4) ++ to_be_bytes w32 count ++ content)) bytes h.1 in
          let short : length content + 4 < 2 ^ 32 = below _ _ p.0 in
          record {
            width = four_bytes;
            byte = byte_of wide;
            behind = to_be_bytes w32 (length content + 4) ++ to_be_bytes w32 count ++ content;
            begins = sym p.1;
            row = row_of_byte wide ∙ w;
            fits = omega arith;
            sized = counted_32 count content short;
          }
    ]

-- likewise in the wide form
pub record CountedStands (rows : Width → Row) (count : ℕ) (content : List ℕ) (p : ℕ × List ℕ) : Type 0 where
  pub code : EncodingCodes
  pub byte : p.0 ≡ byte_of code
  pub plain : 0x44 < p.0
  pub row : row_at (Some code) ≡ rows four_bytes
  pub fits : count < 2 ^ 32
  pub sized : IsSized four_bytes (field four_bytes count ++ content) p.1

pub counted_stands : (rows : Width → Row) (code : EncodingCodes) (count : ℕ) (content : List ℕ) (p : ℕ × List ℕ) → row_at (Some code) ≡ rows four_bytes → 0x44 < byte_of code → count ≤ length content → counted_wide (byte_of code) count content ≡ Some p → CountedStands rows count content p
counted_stands rows code count content p r c l e =
    let h = passed (nat_lt (length content + 4) (2 ^ 32)) (byte_of code, to_be_bytes w32 (length content + 4) ++ to_be_bytes w32 count ++ content) p e in
    let short : length content + 4 < 2 ^ 32 = below _ _ h.0 in
    let made : CountedStands rows count content (byte_of code, to_be_bytes w32 (length content + 4) ++ to_be_bytes w32 count ++ content) = record { code = code; byte = refl; plain = c; row = r; fits = omega arith; sized = counted_32 count content short } in
    subst (CountedStands rows count content) h.1 made

-- ---- lengths

counted_text_long : (narrow wide count : ℕ) (content bytes : List ℕ) → counted_text narrow wide count content ≡ Some bytes → 0 < length bytes
counted_text_long narrow wide count content bytes e =
    elim (chosen (nat_lt (length content) 255) _ _ _ e) [
      | inl h ↦ let same = some_same _ _ h.1 in omega (arith, ap length same)
      | inr h ↦ let p = passed (nat_lt (length content + 4) (2 ^ 32)) _ bytes h.1 in omega (arith, ap length p.1)
    ]

counted_wide_long : (c count : ℕ) (content : List ℕ) (p : ℕ × List ℕ) → counted_wide c count content ≡ Some p → 0 < length p.1
counted_wide_long c count content p e =
    let h = passed (nat_lt (length content + 4) (2 ^ 32)) (c, to_be_bytes w32 (length content + 4) ++ to_be_bytes w32 count ++ content) p e in
    omega (arith, ap (λ (q : ℕ × List ℕ). length q.1) h.1)

-- each canonical text has a byte at least
pub canon_long : (x : Item) (bytes : List ℕ) → canon x ≡ Some bytes → 0 < length bytes
canon_long (scalar s) bytes e = let b = scalar_begins s bytes e in omega (arith, ap length b.begins)
canon_long (raw []) bytes e = absurd cc
canon_long (raw (c ∷ text)) bytes e = let same = some_same _ _ e in omega (arith, ap length same)
canon_long (list xs) bytes e =
    let b = bind_some (canon_all xs) (list_text (item_count xs)) bytes e in
    elim (chosen (length b.0 == 0) _ _ _ b.2) [
      | inl h ↦ let same = some_same _ _ h.1 in omega (arith, ap length same)
      | inr h ↦ counted_text_long 0xc0 0xd0 (item_count xs) b.0 bytes h.1
    ]
canon_long (map ps) bytes e =
    let b = bind_some (canon_pairs ps) (map_text (2 * pair_count ps)) bytes e in
    counted_text_long 0xc1 0xd1 (2 * pair_count ps) b.0 bytes b.2
canon_long (array xs) bytes e =
    let b = bind_some (elements xs) (array_text (item_count xs)) bytes e in
    counted_text_long 0xe0 0xf0 (item_count xs) b.0 bytes b.2
canon_long (described d v) bytes e =
    let b = bind_some (canon d) (λ a. canon v >>= λ b. Some (0x00 ∷ a ++ b)) bytes e in
    let t = bind_some (canon v) (λ s. Some (0x00 ∷ b.0 ++ s)) bytes b.2 in
    let same = some_same _ _ t.2 in
    omega (arith, ap length same)

pub wide_long : (x : Item) (p : ℕ × List ℕ) → wide x ≡ Some p → 0 < length p.1
wide_long (scalar s) p e = (scalar_stands s p e).long
wide_long (raw text) p e = absurd cc
wide_long (list xs) p e =
    let b = bind_some (canon_all xs) (list_wide (item_count xs)) p e in
    counted_wide_long 0xd0 (item_count xs) b.0 p b.2
wide_long (map ps) p e =
    let b = bind_some (canon_pairs ps) (map_wide (2 * pair_count ps)) p e in
    counted_wide_long 0xd1 (2 * pair_count ps) b.0 p b.2
wide_long (array xs) p e =
    let b = bind_some (elements xs) (array_wide (item_count xs)) p e in
    counted_wide_long 0xf0 (item_count xs) b.0 p b.2
wide_long (described d v) p e = absurd cc

pub count-le-length : (xs : Items) (bytes : List ℕ) → canon_all xs ≡ Some bytes → item_count xs ≤ length bytes
count-le-length no_items bytes e = omega arith
count-le-length (more_items x xs) bytes e =
    let b = bind_some (canon x) (λ a. canon_all xs >>= λ b. Some (a ++ b)) bytes e in
    let t = bind_some (canon_all xs) (λ s. Some (b.0 ++ s)) bytes b.2 in
    let same = some_same _ _ t.2 in
    omega (arith, ap length same, length-append b.0 t.0, canon_long x b.0 b.1, count-le-length xs t.0 t.1)

pub pair_count-le-length : (ps : Pairs) (bytes : List ℕ) → canon_pairs ps ≡ Some bytes → 2 * pair_count ps ≤ length bytes
pair_count-le-length no_pairs bytes e = omega arith
pair_count-le-length (more_pairs x y ps) bytes e =
    let b = bind_some (canon x) (λ a. canon y >>= λ b. canon_pairs ps >>= λ r. Some (a ++ (b ++ r))) bytes e in
    let t = bind_some (canon y) (λ s. canon_pairs ps >>= λ r. Some (b.0 ++ (s ++ r))) bytes b.2 in
    let u = bind_some (canon_pairs ps) (λ r. Some (b.0 ++ (t.0 ++ r))) bytes t.2 in
    let same = some_same _ _ u.2 in
    omega (arith, ap length same, length-append b.0 (t.0 ++ u.0), length-append t.0 u.0, canon_long x b.0 b.1, canon_long y t.0 t.1, pair_count-le-length ps u.0 u.1)

pub rest_count-le-length : (xs : Items) (c : ℕ) (bytes : List ℕ) → elements_of c xs ≡ Some bytes → item_count xs ≤ length bytes
rest_count-le-length no_items c bytes e = omega arith
rest_count-le-length (more_items x xs) c bytes e =
    let b = bind_some (wide x >>= same_constructor c) (λ a. elements_of c xs >>= λ s. Some (a ++ s)) bytes e in
    let t = bind_some (elements_of c xs) (λ s. Some (b.0 ++ s)) bytes b.2 in
    let o = bind_some (wide x) (same_constructor c) b.0 b.1 in
    let g = passed (o.0.0 == c) o.0.1 b.0 o.2 in
    let same = some_same _ _ t.2 in
    omega (arith, ap length same, ap length g.1, length-append b.0 t.0, wide_long x o.0 o.1, rest_count-le-length xs c t.0 t.1)

pub element_count-lt-length : (xs : Items) (bytes : List ℕ) → elements xs ≡ Some bytes → item_count xs < length bytes
element_count-lt-length no_items bytes e = let same = some_same _ _ e in omega (arith, ap length same)
element_count-lt-length (more_items x xs) bytes e =
    let b = bind_some (wide x) (λ p. elements_of p.0 xs >>= λ s. Some (p.0 ∷ p.1 ++ s)) bytes e in
    let t = bind_some (elements_of b.0.0 xs) (λ s. Some (b.0.0 ∷ b.0.1 ++ s)) bytes b.2 in
    let same = some_same _ _ t.2 in
    omega (arith, ap length same, length-append b.0.1 t.0, wide_long x b.0 b.1, rest_count-le-length xs b.0.0 t.0 t.1)

-- ---- forms

-- behind some constructor a form
pub record Begins (within : ℕ → Type 0) (kept : ℕ → List ℕ → Type 0) (x : Item) (bytes : List ℕ) : Type 0 where
  pub byte : ℕ
  pub behind : List ℕ
  pub begins : bytes ≡ byte ∷ behind
  pub form : Form within kept x (Some byte) (row_of byte) behind

-- the form behind a constructor that an array's elements may have
pub record Stands (within : ℕ → Type 0) (kept : ℕ → List ℕ → Type 0) (x : Item) (p : ℕ × List ℕ) : Type 0 where
  pub code : EncodingCodes
  pub byte : p.0 ≡ byte_of code
  pub plain : 0x44 < p.0
  pub form : Form within kept x None (row_of p.0) p.1

-- the content of an array: a constructor, and forms behind it
pub record RowOfOne (within : ℕ → Type 0) (kept : ℕ → List ℕ → Type 0) (xs : Items) (content : List ℕ) : Type 0 where
  pub byte : ℕ
  pub behind : List ℕ
  pub begins : content ≡ byte ∷ behind
  pub code : IsElementCode (item_count xs) byte
  pub forms : Forms within kept xs (Some byte) behind

row_of_stands : (code : EncodingCodes) (c : ℕ) → c ≡ byte_of code → row_of c ≡ row_at (Some code)
row_of_stands code c e = ap row_of e ∙ row_of_byte code

element_code : (n : ℕ) (code : EncodingCodes) (c : ℕ) → c ≡ byte_of code → 0x44 < c → IsElementCode n c
element_code n code c e l = record {
  known = subst (λ (o : Option EncodingCodes). IsSome o) (sym (ap code_of e ∙ code_of_byte code)) refl;
  plain = λ h. (λ (i : c ≡ 0x40). omega (arith, i, l), λ (i : c ≡ 0x00). omega (arith, i, l));
}

nothing_in : (xs : Items) → item_count xs ≡ 0 → xs ≡ no_items
nothing_in no_items e = refl
nothing_in (more_items x xs) e = absurd (omega arith)

list_begins : (within : ℕ → Type 0) (kept : ℕ → List ℕ → Type 0) (xs : Items) (content bytes : List ℕ) → within (item_count xs) → Forms within kept xs None content → item_count xs ≤ length content → list_text (item_count xs) content ≡ Some bytes → Begins within kept (list xs) bytes
list_begins within kept xs content bytes w f l e =
    elim (chosen (length content == 0) _ _ _ e) [
      | inl h ↦
          let z : length content ≡ 0 = equal _ _ h.0 in
          let form : Form within kept (list xs) (Some 0x45) empty_list [] = (nothing_in xs (omega arith), refl) in
          record { byte = 0x45; behind = []; begins = sym (some_same _ _ h.1); form = subst (λ (row : Row). Form within kept (list xs) (Some 0x45) row []) (sym (row_of_byte List0)) form }
      | inr t ↦
          let c = counted_begins list_of List8 List32 (item_count xs) content bytes refl refl l t.1 in
          let form : Form within kept (list xs) (Some c.byte) (list_of c.width) c.behind = (content, w, c.fits, c.sized, f) in
          record { byte = c.byte; behind = c.behind; begins = c.begins; form = subst (λ (row : Row). Form within kept (list xs) (Some c.byte) row c.behind) (sym c.row) form }
    ]

list_stands : (within : ℕ → Type 0) (kept : ℕ → List ℕ → Type 0) (xs : Items) (content : List ℕ) (p : ℕ × List ℕ) → within (item_count xs) → Forms within kept xs None content → item_count xs ≤ length content → list_wide (item_count xs) content ≡ Some p → Stands within kept (list xs) p
list_stands within kept xs content p w f l e =
    let c = counted_stands list_of List32 (item_count xs) content p refl (omega arith) l e in
    let form : Form within kept (list xs) None (list_of four_bytes) p.1 = (content, w, c.fits, c.sized, f) in
    record { code = c.code; byte = c.byte; plain = c.plain; form = subst (λ (row : Row). Form within kept (list xs) None row p.1) (sym (row_of_stands c.code p.0 c.byte ∙ c.row)) form }

map_begins : (within : ℕ → Type 0) (kept : ℕ → List ℕ → Type 0) (ps : Pairs) (content bytes : List ℕ) → within (2 * pair_count ps) → PairForms within kept ps content → 2 * pair_count ps ≤ length content → map_text (2 * pair_count ps) content ≡ Some bytes → Begins within kept (map ps) bytes
map_begins within kept ps content bytes w f l e =
    let c = counted_begins map_of Map8 Map32 (2 * pair_count ps) content bytes refl refl l e in
    let form : Form within kept (map ps) (Some c.byte) (map_of c.width) c.behind = (content, w, c.fits, c.sized, f) in
    record { byte = c.byte; behind = c.behind; begins = c.begins; form = subst (λ (row : Row). Form within kept (map ps) (Some c.byte) row c.behind) (sym c.row) form }

map_stands : (within : ℕ → Type 0) (kept : ℕ → List ℕ → Type 0) (ps : Pairs) (content : List ℕ) (p : ℕ × List ℕ) → within (2 * pair_count ps) → PairForms within kept ps content → 2 * pair_count ps ≤ length content → map_wide (2 * pair_count ps) content ≡ Some p → Stands within kept (map ps) p
map_stands within kept ps content p w f l e =
    let c = counted_stands map_of Map32 (2 * pair_count ps) content p refl (omega arith) l e in
    let form : Form within kept (map ps) None (map_of four_bytes) p.1 = (content, w, c.fits, c.sized, f) in
    record { code = c.code; byte = c.byte; plain = c.plain; form = subst (λ (row : Row). Form within kept (map ps) None row p.1) (sym (row_of_stands c.code p.0 c.byte ∙ c.row)) form }

array_begins : (within : ℕ → Type 0) (kept : ℕ → List ℕ → Type 0) (xs : Items) (content bytes : List ℕ) → within (item_count xs) → RowOfOne within kept xs content → item_count xs ≤ length content → array_text (item_count xs) content ≡ Some bytes → Begins within kept (array xs) bytes
array_begins within kept xs content bytes w f l e =
    let c = counted_begins array_of Array8 Array32 (item_count xs) content bytes refl refl l e in
    let sized : IsSized c.width (field c.width (item_count xs) ++ f.byte ∷ f.behind) c.behind = subst (λ (s : List ℕ). IsSized c.width (field c.width (item_count xs) ++ s) c.behind) f.begins c.sized in
    let form : Form within kept (array xs) (Some c.byte) (array_of c.width) c.behind = inr (f.byte, f.behind, w, c.fits, sized, f.code, f.forms) in
    record { byte = c.byte; behind = c.behind; begins = c.begins; form = subst (λ (row : Row). Form within kept (array xs) (Some c.byte) row c.behind) (sym c.row) form }

array_stands : (within : ℕ → Type 0) (kept : ℕ → List ℕ → Type 0) (xs : Items) (content : List ℕ) (p : ℕ × List ℕ) → within (item_count xs) → RowOfOne within kept xs content → item_count xs ≤ length content → array_wide (item_count xs) content ≡ Some p → Stands within kept (array xs) p
array_stands within kept xs content p w f l e =
    let c = counted_stands array_of Array32 (item_count xs) content p refl (omega arith) l e in
    let sized : IsSized four_bytes (field four_bytes (item_count xs) ++ f.byte ∷ f.behind) p.1 = subst (λ (s : List ℕ). IsSized four_bytes (field four_bytes (item_count xs) ++ s) p.1) f.begins c.sized in
    let form : Form within kept (array xs) None (array_of four_bytes) p.1 = inr (f.byte, f.behind, w, c.fits, sized, f.code, f.forms) in
    record { code = c.code; byte = c.byte; plain = c.plain; form = subst (λ (row : Row). Form within kept (array xs) None row p.1) (sym (row_of_stands c.code p.0 c.byte ∙ c.row)) form }

mutual
  pub canon_begins : (within : ℕ → Type 0) (kept : ℕ → List ℕ → Type 0) (x : Item) (bytes : List ℕ) → AllWithin within x → RawKept kept x → canon x ≡ Some bytes → Begins within kept x bytes
  canon_begins within kept (scalar s) bytes w r e =
      let b = scalar_begins s bytes e in
      record { byte = byte_of b.code; behind = b.behind; begins = b.begins; form = subst (λ (row : Row). ScalarForm s row b.behind) (sym (row_of_byte b.code)) b.form }
  canon_begins within kept (raw []) bytes w r e = absurd r
  canon_begins within kept (raw (c ∷ text)) bytes w r e = record { byte = c; behind = text; begins = sym (some_same _ _ e); form = (refl, r) }
  canon_begins within kept (list xs) bytes w r e =
      let b = bind_some (canon_all xs) (list_text (item_count xs)) bytes e in
      list_begins within kept xs b.0 bytes w.0 (all_forms within kept xs b.0 w.1 r b.1) (count-le-length xs b.0 b.1) b.2
  canon_begins within kept (map ps) bytes w r e =
      let b = bind_some (canon_pairs ps) (map_text (2 * pair_count ps)) bytes e in
      map_begins within kept ps b.0 bytes w.0 (pair_forms within kept ps b.0 w.1 r b.1) (pair_count-le-length ps b.0 b.1) b.2
  canon_begins within kept (array xs) bytes w r e =
      let b = bind_some (elements xs) (array_text (item_count xs)) bytes e in
      let l = element_count-lt-length xs b.0 b.1 in
      array_begins within kept xs b.0 bytes w.0 (elements_form within kept xs b.0 w.1 r b.1) (omega arith) b.2
  canon_begins within kept (described d v) bytes w r e =
      let b = bind_some (canon d) (λ a. canon v >>= λ b. Some (0x00 ∷ a ++ b)) bytes e in
      let t = bind_some (canon v) (λ s. Some (0x00 ∷ b.0 ++ s)) bytes b.2 in
      let f = canon_begins within kept d b.0 w.0 r.0 b.1 in
      let g = canon_begins within kept v t.0 w.1 r.1 t.1 in
      let parts : b.0 ++ t.0 ≡ (f.byte ∷ f.behind) ++ (g.byte ∷ g.behind) = ap (λ (s : List ℕ). s ++ t.0) f.begins ∙ ap (λ (s : List ℕ). (f.byte ∷ f.behind) ++ s) g.begins in
      let form : Form within kept (described d v) (Some 0x00) described_by (b.0 ++ t.0) = (f.byte, f.behind, g.byte, g.behind, parts, f.form, g.form) in
      record { byte = 0x00; behind = b.0 ++ t.0; begins = sym (some_same _ _ t.2); form = subst (λ (row : Row). Form within kept (described d v) (Some 0x00) row (b.0 ++ t.0)) (sym (row_of_byte DescribedType)) form }

  pub all_forms : (within : ℕ → Type 0) (kept : ℕ → List ℕ → Type 0) (xs : Items) (bytes : List ℕ) → EachWithin within xs → EachRawKept kept xs → canon_all xs ≡ Some bytes → Forms within kept xs None bytes
  all_forms within kept no_items bytes w r e = sym (some_same _ _ e)
  all_forms within kept (more_items x xs) bytes w r e =
      let b = bind_some (canon x) (λ a. canon_all xs >>= λ b. Some (a ++ b)) bytes e in
      let t = bind_some (canon_all xs) (λ s. Some (b.0 ++ s)) bytes b.2 in
      let f = canon_begins within kept x b.0 w.0 r.0 b.1 in
      let others = all_forms within kept xs t.0 w.1 r.1 t.1 in
      let parts : bytes ≡ f.byte ∷ (f.behind ++ t.0) = sym (some_same _ _ t.2) ∙ ap (λ (s : List ℕ). s ++ t.0) f.begins in
      (f.byte, f.behind, t.0, parts, f.form, others)

  pub pair_forms : (within : ℕ → Type 0) (kept : ℕ → List ℕ → Type 0) (ps : Pairs) (bytes : List ℕ) → EachPairWithin within ps → EachPairRawKept kept ps → canon_pairs ps ≡ Some bytes → PairForms within kept ps bytes
  pair_forms within kept no_pairs bytes w r e = sym (some_same _ _ e)
  pair_forms within kept (more_pairs x y ps) bytes w r e =
      let b = bind_some (canon x) (λ a. canon y >>= λ b. canon_pairs ps >>= λ r. Some (a ++ (b ++ r))) bytes e in
      let t = bind_some (canon y) (λ s. canon_pairs ps >>= λ r. Some (b.0 ++ (s ++ r))) bytes b.2 in
      let u = bind_some (canon_pairs ps) (λ r. Some (b.0 ++ (t.0 ++ r))) bytes t.2 in
      let f = canon_begins within kept x b.0 w.0 r.0 b.1 in
      let g = canon_begins within kept y t.0 w.1 r.1 t.1 in
      let others = pair_forms within kept ps u.0 w.2 r.2 u.1 in
      let parts : bytes ≡ f.byte ∷ (f.behind ++ g.byte ∷ (g.behind ++ u.0)) =
      sym (some_same _ _ u.2) ∙ (ap (λ (s : List ℕ). s ++ (t.0 ++ u.0)) f.begins ∙ ap (λ (s : List ℕ). f.byte ∷ (f.behind ++ (s ++ u.0))) g.begins) in
      (f.byte, f.behind, g.byte, g.behind, u.0, parts, f.form, g.form, others)

  pub wide_stands : (within : ℕ → Type 0) (kept : ℕ → List ℕ → Type 0) (x : Item) (p : ℕ × List ℕ) → AllWithin within x → RawKept kept x → wide x ≡ Some p → Stands within kept x p
  wide_stands within kept (scalar s) p w r e =
      let b = scalar_stands s p e in
      record { code = b.code; byte = b.byte; plain = b.plain; form = subst (λ (row : Row). ScalarForm s row p.1) (sym (row_of_stands b.code p.0 b.byte)) b.form }
  wide_stands within kept (raw text) p w r e = absurd cc
  wide_stands within kept (list xs) p w r e =
      let b = bind_some (canon_all xs) (list_wide (item_count xs)) p e in
      list_stands within kept xs b.0 p w.0 (all_forms within kept xs b.0 w.1 r b.1) (count-le-length xs b.0 b.1) b.2
  wide_stands within kept (map ps) p w r e =
      let b = bind_some (canon_pairs ps) (map_wide (2 * pair_count ps)) p e in
      map_stands within kept ps b.0 p w.0 (pair_forms within kept ps b.0 w.1 r b.1) (pair_count-le-length ps b.0 b.1) b.2
  wide_stands within kept (array xs) p w r e =
      let b = bind_some (elements xs) (array_wide (item_count xs)) p e in
      let l = element_count-lt-length xs b.0 b.1 in
      array_stands within kept xs b.0 p w.0 (elements_form within kept xs b.0 w.1 r b.1) (omega arith) b.2
  wide_stands within kept (described d v) p w r e = absurd cc

  pub elements_form : (within : ℕ → Type 0) (kept : ℕ → List ℕ → Type 0) (xs : Items) (bytes : List ℕ) → EachWithin within xs → EachRawKept kept xs → elements xs ≡ Some bytes → RowOfOne within kept xs bytes
  elements_form within kept no_items bytes w r e = record {
    byte = 0x40;
    behind = [];
    begins = sym (some_same _ _ e);
    code = record { known = subst (λ (o : Option EncodingCodes). IsSome o) (sym (code_of_byte Null)) refl; plain = λ h. absurd (omega (arith, h)) };
    forms = refl;
  }
  elements_form within kept (more_items x xs) bytes w r e =
      let b = bind_some (wide x) (λ p. elements_of p.0 xs >>= λ s. Some (p.0 ∷ p.1 ++ s)) bytes e in
      let t = bind_some (elements_of b.0.0 xs) (λ s. Some (b.0.0 ∷ b.0.1 ++ s)) bytes b.2 in
      let f = wide_stands within kept x b.0 w.0 r.0 b.1 in
      let others = rest_form within kept xs b.0.0 t.0 w.1 r.1 t.1 in
      record {
        byte = b.0.0;
        behind = b.0.1 ++ t.0;
        begins = sym (some_same _ _ t.2);
        code = element_code (item_count xs + 1) f.code b.0.0 f.byte f.plain;
        forms = (b.0.0, b.0.1, t.0, (refl, refl), f.form, others);
      }

  pub rest_form : (within : ℕ → Type 0) (kept : ℕ → List ℕ → Type 0) (xs : Items) (c : ℕ) (bytes : List ℕ) → EachWithin within xs → EachRawKept kept xs → elements_of c xs ≡ Some bytes → Forms within kept xs (Some c) bytes
  rest_form within kept no_items c bytes w r e = sym (some_same _ _ e)
  rest_form within kept (more_items x xs) c bytes w r e =
      let b = bind_some (wide x >>= same_constructor c) (λ a. elements_of c xs >>= λ s. Some (a ++ s)) bytes e in
      let t = bind_some (elements_of c xs) (λ s. Some (b.0 ++ s)) bytes b.2 in
      let o = bind_some (wide x) (same_constructor c) b.0 b.1 in
      let g = passed (o.0.0 == c) o.0.1 b.0 o.2 in
      let f = wide_stands within kept x o.0 w.0 r.0 o.1 in
      let here : Form within kept x None (row_of o.0.0) b.0 = subst (λ (s : List ℕ). Form within kept x None (row_of o.0.0) s) g.1 f.form in
      let others = rest_form within kept xs c t.0 w.1 r.1 t.1 in
      (o.0.0, b.0, t.0, (equal _ _ g.0, sym (some_same _ _ t.2)), here, others)

pub canon_wire : (x : Item) (bytes : List ℕ) → AllWithin IsCapped x → RawKept IsStrict x → canon x ≡ Some bytes → Wire x None bytes
canon_wire x bytes w r e =
    let b = canon_begins IsCapped IsStrict x bytes w r e in
    (b.byte, b.behind, b.begins, b.form)

pub wide_wire : (x : Item) (p : ℕ × List ℕ) → AllWithin IsCapped x → RawKept IsStrict x → wide x ≡ Some p → Wire x (Some p.0) p.1
wide_wire x p w r e = (p.0, p.1, (refl, refl), (wide_stands IsCapped IsStrict x p w r e).form)

-- ---- different items have different texts

mutual
  any_within : (x : Item) → AllWithin AnyCount x
  any_within (scalar s) = tt
  any_within (raw text) = tt
  any_within (list xs) = (tt, any_each xs)
  any_within (map ps) = (tt, any_pairs ps)
  any_within (array xs) = (tt, any_each xs)
  any_within (described d v) = (any_within d, any_within v)

  any_each : (xs : Items) → EachWithin AnyCount xs
  any_each no_items = tt
  any_each (more_items x xs) = (any_within x, any_each xs)

  any_pairs : (ps : Pairs) → EachPairWithin AnyCount ps
  any_pairs no_pairs = tt
  any_pairs (more_pairs x y ps) = (any_within x, any_within y, any_pairs ps)

pub canon_same : (x y : Item) (bytes : List ℕ) → WithoutRaw x → WithoutRaw y → canon x ≡ Some bytes → canon y ≡ Some bytes → x ≡ y
canon_same x y bytes p q e f =
    let b = canon_begins AnyCount NoRaw x bytes (any_within x) p e in
    let c = canon_begins AnyCount NoRaw y bytes (any_within y) q f in
    let whole : b.byte ∷ b.behind ≡ c.byte ∷ c.behind = sym b.begins ∙ c.begins in
    let same : b.byte ≡ c.byte = cc in
    let rest : b.behind ≡ c.behind = cc in
    let there : Form AnyCount NoRaw y (Some b.byte) (row_of b.byte) c.behind = subst (λ (i : ℕ). Form AnyCount NoRaw y (Some i) (row_of i) c.behind) (sym same) c.form in
    (form_same AnyCount x y (Some b.byte) (row_of b.byte) b.behind c.behind [] [] b.form there (ap (λ (s : List ℕ). s ++ []) rest)).0

-- ---- places

-- what a list adds at a place
pub list_is_placed : (p : Place) (xs : Items) (content : List ℕ) → canon_all xs ≡ Some content → placed p (list xs) ≡ list_placed p (item_count xs) content
list_is_placed alone xs content e = ap (λ (o : Option (List ℕ)). (o >>= list_text (item_count xs)) >>= λ a. Some (alone, a)) e
list_is_placed first xs content e = ap (λ (o : Option (List ℕ)). (o >>= list_wide (item_count xs)) >>= settled first) e
list_is_placed (next c) xs content e = ap (λ (o : Option (List ℕ)). (o >>= list_wide (item_count xs)) >>= settled (next c)) e

-- nothing is added for a list with an item that has no text
pub list_not_placed : (p : Place) (xs : Items) → canon_all xs ≡ None → placed p (list xs) ≡ None
list_not_placed alone xs e = ap (λ (o : Option (List ℕ)). (o >>= list_text (item_count xs)) >>= λ a. Some (alone, a)) e
list_not_placed first xs e = ap (λ (o : Option (List ℕ)). (o >>= list_wide (item_count xs)) >>= settled first) e
list_not_placed (next c) xs e = ap (λ (o : Option (List ℕ)). (o >>= list_wide (item_count xs)) >>= settled (next c)) e

-- likewise a map
pub map_is_placed : (p : Place) (ps : Pairs) (content : List ℕ) → canon_pairs ps ≡ Some content → placed p (map ps) ≡ map_placed p (2 * pair_count ps) content
map_is_placed alone ps content e = ap (λ (o : Option (List ℕ)). (o >>= map_text (2 * pair_count ps)) >>= λ a. Some (alone, a)) e
map_is_placed first ps content e = ap (λ (o : Option (List ℕ)). (o >>= map_wide (2 * pair_count ps)) >>= settled first) e
map_is_placed (next c) ps content e = ap (λ (o : Option (List ℕ)). (o >>= map_wide (2 * pair_count ps)) >>= settled (next c)) e

pub map_not_placed : (p : Place) (ps : Pairs) → canon_pairs ps ≡ None → placed p (map ps) ≡ None
map_not_placed alone ps e = ap (λ (o : Option (List ℕ)). (o >>= map_text (2 * pair_count ps)) >>= λ a. Some (alone, a)) e
map_not_placed first ps e = ap (λ (o : Option (List ℕ)). (o >>= map_wide (2 * pair_count ps)) >>= settled first) e
map_not_placed (next c) ps e = ap (λ (o : Option (List ℕ)). (o >>= map_wide (2 * pair_count ps)) >>= settled (next c)) e

-- likewise an array
pub array_is_placed : (p : Place) (xs : Items) (content : List ℕ) → elements xs ≡ Some content → placed p (array xs) ≡ array_placed p (item_count xs) content
array_is_placed alone xs content e = ap (λ (o : Option (List ℕ)). (o >>= array_text (item_count xs)) >>= λ a. Some (alone, a)) e
array_is_placed first xs content e = ap (λ (o : Option (List ℕ)). (o >>= array_wide (item_count xs)) >>= settled first) e
array_is_placed (next c) xs content e = ap (λ (o : Option (List ℕ)). (o >>= array_wide (item_count xs)) >>= settled (next c)) e

pub array_not_placed : (p : Place) (xs : Items) → elements xs ≡ None → placed p (array xs) ≡ None
array_not_placed alone xs e = ap (λ (o : Option (List ℕ)). (o >>= array_text (item_count xs)) >>= λ a. Some (alone, a)) e
array_not_placed first xs e = ap (λ (o : Option (List ℕ)). (o >>= array_wide (item_count xs)) >>= settled first) e
array_not_placed (next c) xs e = ap (λ (o : Option (List ℕ)). (o >>= array_wide (item_count xs)) >>= settled (next c)) e

-- ---- items one behind the other

stuck_behind : (o r : Option (List ℕ)) → r ≡ None → (o >>= λ s. r >>= λ t. Some (s ++ t)) ≡ None
stuck_behind None r e = refl
stuck_behind (Some s) r e = ap (λ (o : Option (List ℕ)). o >>= λ t. Some (s ++ t)) e

pub canon_all_more : (xs : List Item) (x : Item) (a b : List ℕ) → canon_all (items_of xs) ≡ Some a → canon x ≡ Some b → canon_all (items_of (xs ++ x ∷ [])) ≡ Some (a ++ b)
canon_all_more [] x a b e f =
    let z : [] ≡ a = cc in
    ap (λ (o : Option (List ℕ)). o >>= λ s. Some (s ++ [])) f ∙ (simp append-nil (ap (λ (s : List ℕ). Some (s ++ b)) z))
canon_all_more (y ∷ xs) x a b e f =
    let h = bind_some (canon y) (λ s. canon_all (items_of xs) >>= λ t. Some (s ++ t)) a e in
    let t = bind_some (canon_all (items_of xs)) (λ s. Some (h.0 ++ s)) a h.2 in
    let rest = canon_all_more xs x t.0 b t.1 f in
    let whole : h.0 ++ t.0 ≡ a = cc in
    ap (λ (o : Option (List ℕ)). o >>= λ s. canon_all (items_of (xs ++ x ∷ [])) >>= λ r. Some (s ++ r)) h.1
    ∙ (ap (λ (o : Option (List ℕ)). o >>= λ r. Some (h.0 ++ r)) rest
    ∙ (ap (λ (s : List ℕ). Some s) (sym (append_assoc h.0 t.0 b)) ∙ ap (λ (s : List ℕ). Some (s ++ b)) whole))

pub canon_all_stuck : (xs ys : List Item) (x : Item) → canon x ≡ None → canon_all (items_of (xs ++ x ∷ ys)) ≡ None
canon_all_stuck [] ys x e = ap (λ (o : Option (List ℕ)). o >>= λ s. canon_all (items_of ys) >>= λ r. Some (s ++ r)) e
canon_all_stuck (y ∷ xs) ys x e = stuck_behind (canon y) (canon_all (items_of (xs ++ x ∷ ys))) (canon_all_stuck xs ys x e)
