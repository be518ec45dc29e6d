-- The texts of scalars.
use Rattle.std.proofs.Common.{◌≡◌, ◌≢◌, ℕ, ◌<◌, ◌≤◌, ◌^◌, List, [], ◌∷◌, ◌++◌, length, Bool, true, false, Option, Some, None, sym, ◌∙◌, ap, subst, refl, arith, append_assoc}
use Rattle.std.specs.Prelude.{nat_lt, ◌==◌, ℤ, pos, negsuc, FitsSigned}
use Rattle.std.specs.Int.{w8, w16, w32, w64, to_be_bytes, cast_unsigned}
use Rattle.std.specs.Str.{IsUtf8, is_utf8}
use Rattle.std.proofs.lemmas.Str.{is_utf8-from_IsUtf8}
use Rattle.std.proofs.lemmas.Bool.Decides.{nat_tests}
use Rattle.serde_amqp_item.specs.declared.codes.EncodingCodes.TheVariants.{Vbin8, Str8, Sym8}
use Rattle.serde_amqp_item.specs.Item.{Scalar, null, boolean, ubyte, ushort, uint, ulong, byte, short, int, long, float, double, decimal32, decimal64, decimal128, char, timestamp, uuid, binary, string, symbol}
use Rattle.serde_amqp_item.specs.Wire.{row_at, is_scalar_value}
use Rattle.serde_amqp_item.specs.Canon.{◌>>=◌, is_signed, wide_sized, same_constructor, scalar_text, scalar_wide}
use Rattle.serde_amqp_tree.specs.Tree.{PutsScalar, PutsSized, PutsWideSized, reading, scalar_of, sized_of, led, boolean_byte}
use Rattle.serde_amqp_tree.proofs.Puttings.{on_true, on_false, is_below, not_below, not_equal, of_same}

-- ---- one text for both

led_text : (inherited : Bool) (c : ℕ) (content old : List ℕ) → led inherited c (content ++ old) ≡ led inherited c content ++ old
led_text true c content old = refl
led_text false c content old = refl

led_written : (inherited : Bool) (c : ℕ) (s : Scalar) (content : List ℕ) → scalar_text s ≡ Some (c ∷ content) → scalar_wide s ≡ Some (c, content) → scalar_of inherited c s ≡ Some (led inherited c content)
led_written false c s content e w = e
led_written true c s content e w = ap (λ (o : Option (ℕ × List ℕ)). o >>= same_constructor c) w ∙ of_same c content

plain_put : (inherited : Bool) (c : ℕ) (s : Scalar) (content old new : List ℕ) → scalar_text s ≡ Some (c ∷ content) → scalar_wide s ≡ Some (c, content) → new ≡ led inherited c (content ++ old) → PutsScalar inherited c (Some s) old new
plain_put inherited c s content old new e w p = record {
  value = s;
  text = led inherited c content;
  means = refl;
  written = led_written inherited c s content e w;
  put = p ∙ led_text inherited c content old;
}

-- the wide form of an element
element_put : (inherited : Bool) (c : ℕ) (s : Scalar) (content old new : List ℕ) → inherited ≡ true → scalar_wide s ≡ Some (c, content) → new ≡ content ++ old → PutsScalar inherited c (Some s) old new
element_put false c s content old new i w p = absurd cc
element_put true c s content old new i w p = record {
  value = s;
  text = content;
  means = refl;
  written = ap (λ (o : Option (ℕ × List ℕ)). o >>= same_constructor c) w ∙ of_same c content;
  put = p;
}

-- the canonical text
own_put : (inherited : Bool) (c : ℕ) (s : Scalar) (text old new : List ℕ) → inherited ≡ false → scalar_text s ≡ Some text → new ≡ text ++ old → PutsScalar inherited c (Some s) old new
own_put true c s text old new i w p = absurd cc
own_put false c s text old new i w p = record { value = s; text = text; means = refl; written = w; put = p }

-- ---- signed numbers

below : (m n : ℕ) → nat_lt m n ≡ true → m < n
below m n h = grind (arith, nat_tests)

pub signed_8 : (z : ℤ) → FitsSigned w8 z → is_signed 7 z ≡ true
signed_8 (pos n) h = is_below n (2 ^ 7) h.sfits
signed_8 (negsuc n) h = is_below n (2 ^ 7) h.sfits

signed_16 : (z : ℤ) → FitsSigned w16 z → is_signed 15 z ≡ true
signed_16 (pos n) h = is_below n (2 ^ 15) h.sfits
signed_16 (negsuc n) h = is_below n (2 ^ 15) h.sfits

signed_32 : (z : ℤ) → FitsSigned w32 z → is_signed 31 z ≡ true
signed_32 (pos n) h = is_below n (2 ^ 31) h.sfits
signed_32 (negsuc n) h = is_below n (2 ^ 31) h.sfits

signed_64 : (z : ℤ) → FitsSigned w64 z → is_signed 63 z ≡ true
signed_64 (pos n) h = is_below n (2 ^ 63) h.sfits
signed_64 (negsuc n) h = is_below n (2 ^ 63) h.sfits

decided_8 : (z : ℤ) (b : Bool) → is_signed 7 z ≡ b → (FitsSigned w8 z → ⊥) → is_signed 7 z ≡ false
decided_8 z false e n = e
decided_8 (pos m) true e n = absurd (n (record { sfits = below m (2 ^ 7) e }))
decided_8 (negsuc m) true e n = absurd (n (record { sfits = below m (2 ^ 7) e }))

not_signed_8 : (z : ℤ) → (FitsSigned w8 z → ⊥) → is_signed 7 z ≡ false
not_signed_8 z n = decided_8 z (is_signed 7 z) refl n

-- ---- each type

pub null_put : (inherited : Bool) (old new : List ℕ) → inherited ≡ false → new ≡ 0x40 ∷ old → PutsScalar inherited 0x40 (Some null) old new
null_put inherited old new i p = own_put inherited 0x40 null (0x40 ∷ []) old new i refl p

pub boolean_put : (inherited value : Bool) (b : ℕ) (old new : List ℕ) → b ≡ boolean_byte inherited value → new ≡ b ∷ old → PutsScalar inherited 0x56 (Some (boolean value)) old new
boolean_put true true b old new e p = element_put true 0x56 (boolean true) (1 ∷ []) old new refl refl (p ∙ ap (λ (i : ℕ). i ∷ old) e)
boolean_put true false b old new e p = element_put true 0x56 (boolean false) (0 ∷ []) old new refl refl (p ∙ ap (λ (i : ℕ). i ∷ old) e)
boolean_put false true b old new e p = own_put false 0x56 (boolean true) (0x41 ∷ []) old new refl refl (p ∙ ap (λ (i : ℕ). i ∷ old) e)
boolean_put false false b old new e p = own_put false 0x56 (boolean false) (0x42 ∷ []) old new refl refl (p ∙ ap (λ (i : ℕ). i ∷ old) e)

pub uint_element : (inherited : Bool) (n : ℕ) (old new : List ℕ) → inherited ≡ true → n < 2 ^ 32 → new ≡ to_be_bytes w32 n ++ old → PutsScalar inherited 0x70 (Some (uint n)) old new
uint_element inherited n old new i l p = element_put inherited 0x70 (uint n) (to_be_bytes w32 n) old new i (on_true _ _ _ (is_below n (2 ^ 32) l)) p

pub uint_none : (inherited : Bool) (n : ℕ) (old new : List ℕ) → inherited ≡ false → n ≡ 0 → new ≡ 0x43 ∷ old → PutsScalar inherited 0x70 (Some (uint n)) old new
uint_none inherited n old new i z p = subst (λ (m : ℕ). PutsScalar inherited 0x70 (Some (uint m)) old new) (sym z) (own_put inherited 0x70 (uint 0) (0x43 ∷ []) old new i refl p)

pub uint_byte : (inherited : Bool) (n : ℕ) (old new : List ℕ) → inherited ≡ false → n ≢ 0 → n < 256 → new ≡ 0x52 ∷ n ∷ old → PutsScalar inherited 0x70 (Some (uint n)) old new
uint_byte inherited n old new i z l p = own_put inherited 0x70 (uint n) (0x52 ∷ n ∷ []) old new i (on_false _ _ _ (not_equal n 0 z) ∙ on_true _ _ _ (is_below n (2 ^ 8) l)) p

pub uint_word : (inherited : Bool) (n : ℕ) (old new : List ℕ) → inherited ≡ false → n ≢ 0 → 256 ≤ n → n < 2 ^ 32 → new ≡ 0x70 ∷ (to_be_bytes w32 n ++ old) → PutsScalar inherited 0x70 (Some (uint n)) old new
uint_word inherited n old new i z m l p = own_put inherited 0x70 (uint n) (0x70 ∷ to_be_bytes w32 n) old new i (on_false _ _ _ (not_equal n 0 z) ∙ (on_false _ _ _ (not_below n (2 ^ 8) m) ∙ on_true _ _ _ (is_below n (2 ^ 32) l))) p

pub ulong_element : (inherited : Bool) (n : ℕ) (old new : List ℕ) → inherited ≡ true → n < 2 ^ 64 → new ≡ to_be_bytes w64 n ++ old → PutsScalar inherited 0x80 (Some (ulong n)) old new
ulong_element inherited n old new i l p = element_put inherited 0x80 (ulong n) (to_be_bytes w64 n) old new i (on_true _ _ _ (is_below n (2 ^ 64) l)) p

pub ulong_none : (inherited : Bool) (n : ℕ) (old new : List ℕ) → inherited ≡ false → n ≡ 0 → new ≡ 0x44 ∷ old → PutsScalar inherited 0x80 (Some (ulong n)) old new
ulong_none inherited n old new i z p = subst (λ (m : ℕ). PutsScalar inherited 0x80 (Some (ulong m)) old new) (sym z) (own_put inherited 0x80 (ulong 0) (0x44 ∷ []) old new i refl p)

pub ulong_byte : (inherited : Bool) (n : ℕ) (old new : List ℕ) → inherited ≡ false → n ≢ 0 → n < 256 → new ≡ 0x53 ∷ n ∷ old → PutsScalar inherited 0x80 (Some (ulong n)) old new
ulong_byte inherited n old new i z l p = own_put inherited 0x80 (ulong n) (0x53 ∷ n ∷ []) old new i (on_false _ _ _ (not_equal n 0 z) ∙ on_true _ _ _ (is_below n (2 ^ 8) l)) p

pub ulong_word : (inherited : Bool) (n : ℕ) (old new : List ℕ) → inherited ≡ false → n ≢ 0 → 256 ≤ n → n < 2 ^ 64 → new ≡ 0x80 ∷ (to_be_bytes w64 n ++ old) → PutsScalar inherited 0x80 (Some (ulong n)) old new
ulong_word inherited n old new i z m l p = own_put inherited 0x80 (ulong n) (0x80 ∷ to_be_bytes w64 n) old new i (on_false _ _ _ (not_equal n 0 z) ∙ (on_false _ _ _ (not_below n (2 ^ 8) m) ∙ on_true _ _ _ (is_below n (2 ^ 64) l))) p

pub int_element : (inherited : Bool) (z : ℤ) (old new : List ℕ) → inherited ≡ true → FitsSigned w32 z → new ≡ to_be_bytes w32 (cast_unsigned w32 z) ++ old → PutsScalar inherited 0x71 (Some (int z)) old new
int_element inherited z old new i l p = element_put inherited 0x71 (int z) (to_be_bytes w32 (cast_unsigned w32 z)) old new i (on_true _ _ _ (signed_32 z l)) p

pub int_byte : (inherited : Bool) (z y : ℤ) (old new : List ℕ) → inherited ≡ false → FitsSigned w8 z → y ≡ z → new ≡ 0x54 ∷ cast_unsigned w8 y ∷ old → PutsScalar inherited 0x71 (Some (int z)) old new
int_byte inherited z y old new i l e p = own_put inherited 0x71 (int z) (0x54 ∷ cast_unsigned w8 z ∷ []) old new i (on_true _ _ _ (signed_8 z l)) (p ∙ ap (λ (v : ℤ). 0x54 ∷ cast_unsigned w8 v ∷ old) e)

pub int_word : (inherited : Bool) (z : ℤ) (old new : List ℕ) → inherited ≡ false → (FitsSigned w8 z → ⊥) → FitsSigned w32 z → new ≡ 0x71 ∷ (to_be_bytes w32 (cast_unsigned w32 z) ++ old) → PutsScalar inherited 0x71 (Some (int z)) old new
int_word inherited z old new i n l p = own_put inherited 0x71 (int z) (0x71 ∷ to_be_bytes w32 (cast_unsigned w32 z)) old new i (on_false _ _ _ (not_signed_8 z n) ∙ on_true _ _ _ (signed_32 z l)) p

pub long_element : (inherited : Bool) (z : ℤ) (old new : List ℕ) → inherited ≡ true → FitsSigned w64 z → new ≡ to_be_bytes w64 (cast_unsigned w64 z) ++ old → PutsScalar inherited 0x81 (Some (long z)) old new
long_element inherited z old new i l p = element_put inherited 0x81 (long z) (to_be_bytes w64 (cast_unsigned w64 z)) old new i (on_true _ _ _ (signed_64 z l)) p

pub long_byte : (inherited : Bool) (z y : ℤ) (old new : List ℕ) → inherited ≡ false → FitsSigned w8 z → y ≡ z → new ≡ 0x55 ∷ cast_unsigned w8 y ∷ old → PutsScalar inherited 0x81 (Some (long z)) old new
long_byte inherited z y old new i l e p = own_put inherited 0x81 (long z) (0x55 ∷ cast_unsigned w8 z ∷ []) old new i (on_true _ _ _ (signed_8 z l)) (p ∙ ap (λ (v : ℤ). 0x55 ∷ cast_unsigned w8 v ∷ old) e)

pub long_word : (inherited : Bool) (z : ℤ) (old new : List ℕ) → inherited ≡ false → (FitsSigned w8 z → ⊥) → FitsSigned w64 z → new ≡ 0x81 ∷ (to_be_bytes w64 (cast_unsigned w64 z) ++ old) → PutsScalar inherited 0x81 (Some (long z)) old new
long_word inherited z old new i n l p = own_put inherited 0x81 (long z) (0x81 ∷ to_be_bytes w64 (cast_unsigned w64 z)) old new i (on_false _ _ _ (not_signed_8 z n) ∙ on_true _ _ _ (signed_64 z l)) p

pub ubyte_put : (inherited : Bool) (n : ℕ) (old new : List ℕ) → n < 2 ^ 8 → new ≡ led inherited 0x50 (n ∷ old) → PutsScalar inherited 0x50 (Some (ubyte n)) old new
ubyte_put inherited n old new l p = let h = is_below n (2 ^ 8) l in plain_put inherited 0x50 (ubyte n) (n ∷ []) old new (on_true _ _ _ h) (on_true _ _ _ h) p

pub ushort_put : (inherited : Bool) (n : ℕ) (old new : List ℕ) → n < 2 ^ 16 → new ≡ led inherited 0x60 (to_be_bytes w16 n ++ old) → PutsScalar inherited 0x60 (Some (ushort n)) old new
ushort_put inherited n old new l p = let h = is_below n (2 ^ 16) l in plain_put inherited 0x60 (ushort n) (to_be_bytes w16 n) old new (on_true _ _ _ h) (on_true _ _ _ h) p

pub float_put : (inherited : Bool) (n : ℕ) (old new : List ℕ) → n < 2 ^ 32 → new ≡ led inherited 0x72 (to_be_bytes w32 n ++ old) → PutsScalar inherited 0x72 (Some (float n)) old new
float_put inherited n old new l p = let h = is_below n (2 ^ 32) l in plain_put inherited 0x72 (float n) (to_be_bytes w32 n) old new (on_true _ _ _ h) (on_true _ _ _ h) p

pub double_put : (inherited : Bool) (n : ℕ) (old new : List ℕ) → n < 2 ^ 64 → new ≡ led inherited 0x82 (to_be_bytes w64 n ++ old) → PutsScalar inherited 0x82 (Some (double n)) old new
double_put inherited n old new l p = let h = is_below n (2 ^ 64) l in plain_put inherited 0x82 (double n) (to_be_bytes w64 n) old new (on_true _ _ _ h) (on_true _ _ _ h) p

pub byte_put : (inherited : Bool) (z : ℤ) (old new : List ℕ) → FitsSigned w8 z → new ≡ led inherited 0x51 (cast_unsigned w8 z ∷ old) → PutsScalar inherited 0x51 (Some (byte z)) old new
byte_put inherited z old new l p = let h = signed_8 z l in plain_put inherited 0x51 (byte z) (cast_unsigned w8 z ∷ []) old new (on_true _ _ _ h) (on_true _ _ _ h) p

pub short_put : (inherited : Bool) (z : ℤ) (old new : List ℕ) → FitsSigned w16 z → new ≡ led inherited 0x61 (to_be_bytes w16 (cast_unsigned w16 z) ++ old) → PutsScalar inherited 0x61 (Some (short z)) old new
short_put inherited z old new l p = let h = signed_16 z l in plain_put inherited 0x61 (short z) (to_be_bytes w16 (cast_unsigned w16 z)) old new (on_true _ _ _ h) (on_true _ _ _ h) p

pub timestamp_put : (inherited : Bool) (z : ℤ) (old new : List ℕ) → FitsSigned w64 z → new ≡ led inherited 0x83 (to_be_bytes w64 (cast_unsigned w64 z) ++ old) → PutsScalar inherited 0x83 (Some (timestamp z)) old new
timestamp_put inherited z old new l p = let h = signed_64 z l in plain_put inherited 0x83 (timestamp z) (to_be_bytes w64 (cast_unsigned w64 z)) old new (on_true _ _ _ h) (on_true _ _ _ h) p

pub char_put : (inherited : Bool) (n : ℕ) (old new : List ℕ) → is_scalar_value n ≡ true → new ≡ led inherited 0x73 (to_be_bytes w32 n ++ old) → PutsScalar inherited 0x73 (Some (char n)) old new
char_put inherited n old new h p = plain_put inherited 0x73 (char n) (to_be_bytes w32 n) old new (on_true _ _ _ h) (on_true _ _ _ h) p

pub long_as : (n m : ℕ) → n ≡ m → (n == m) ≡ true
long_as n m e = grind (arith, nat_tests)

pub decimal32_put : (inherited : Bool) (bs old new : List ℕ) → length bs ≡ 4 → new ≡ led inherited 0x74 (bs ++ old) → PutsScalar inherited 0x74 (Some (decimal32 bs)) old new
decimal32_put inherited bs old new l p = let h = long_as (length bs) 4 l in plain_put inherited 0x74 (decimal32 bs) bs old new (on_true _ _ _ h) (on_true _ _ _ h) p

pub decimal64_put : (inherited : Bool) (bs old new : List ℕ) → length bs ≡ 8 → new ≡ led inherited 0x84 (bs ++ old) → PutsScalar inherited 0x84 (Some (decimal64 bs)) old new
decimal64_put inherited bs old new l p = let h = long_as (length bs) 8 l in plain_put inherited 0x84 (decimal64 bs) bs old new (on_true _ _ _ h) (on_true _ _ _ h) p

pub decimal128_put : (inherited : Bool) (bs old new : List ℕ) → length bs ≡ 16 → new ≡ led inherited 0x94 (bs ++ old) → PutsScalar inherited 0x94 (Some (decimal128 bs)) old new
decimal128_put inherited bs old new l p = let h = long_as (length bs) 16 l in plain_put inherited 0x94 (decimal128 bs) bs old new (on_true _ _ _ h) (on_true _ _ _ h) p

pub uuid_put : (inherited : Bool) (bs old new : List ℕ) → length bs ≡ 16 → new ≡ led inherited 0x98 (bs ++ old) → PutsScalar inherited 0x98 (Some (uuid bs)) old new
uuid_put inherited bs old new l p = let h = long_as (length bs) 16 l in plain_put inherited 0x98 (uuid bs) bs old new (on_true _ _ _ h) (on_true _ _ _ h) p

pub ruleset scalars = (null_put, boolean_put, uint_element, uint_none, uint_byte, uint_word, ulong_element, ulong_none, ulong_byte, ulong_word, int_element, int_byte, int_word, long_element, long_byte, long_word, ubyte_put, ushort_put, float_put, double_put, byte_put, short_put, timestamp_put, char_put, decimal32_put, decimal64_put, decimal128_put, uuid_put)

pub utf8_is : (bs : List ℕ) → IsUtf8 bs → is_utf8 bs ≡ true
utf8_is bs u = is_utf8-from_IsUtf8 bs u

pub ruleset texts = (utf8_is)

-- ---- what has a size

pub sized_element : (inherited : Bool) (narrow c : ℕ) (content old new : List ℕ) → inherited ≡ true → PutsWideSized inherited c content old new → PutsSized inherited narrow c content old new
sized_element false narrow c content old new i p = absurd cc
sized_element true narrow c content old new i p = record {
  text = to_be_bytes w32 (length content) ++ content;
  written = ap (λ (o : Option (ℕ × List ℕ)). o >>= same_constructor c) (on_true _ (Some (c, to_be_bytes w32 (length content) ++ content)) None (is_below (length content) (2 ^ 32) p.fits)) ∙ of_same c (to_be_bytes w32 (length content) ++ content);
  put = p.put ∙ sym (append_assoc (to_be_bytes w32 (length content)) content old);
}

pub sized_narrow : (inherited : Bool) (narrow c n : ℕ) (content old mid new : List ℕ) → inherited ≡ false → n ≡ length content → length content < 255 → mid ≡ content ++ old → new ≡ narrow ∷ n ∷ mid → PutsSized inherited narrow c content old new
sized_narrow true narrow c n content old mid new i e l m p = absurd cc
sized_narrow false narrow c n content old mid new i e l m p = record {
  text = narrow ∷ length content ∷ content;
  written = on_true _ _ _ (is_below (length content) 255 l);
  put = p ∙ (ap (λ (k : ℕ). narrow ∷ k ∷ mid) e ∙ ap (λ (s : List ℕ). narrow ∷ length content ∷ s) m);
}

pub sized_wide : (inherited : Bool) (narrow c : ℕ) (content old new : List ℕ) → inherited ≡ false → 255 ≤ length content → PutsWideSized inherited c content old new → PutsSized inherited narrow c content old new
sized_wide true narrow c content old new i l p = absurd cc
sized_wide false narrow c content old new i l p = record {
  text = c ∷ (to_be_bytes w32 (length content) ++ content);
  written = on_false _ _ _ (not_below (length content) 255 l) ∙ on_true _ _ _ (is_below (length content) (2 ^ 32) p.fits);
  put = p.put ∙ ap (λ (s : List ℕ). c ∷ s) (sym (append_assoc (to_be_bytes w32 (length content)) content old));
}

pub sized_words : (inherited : Bool) (c n : ℕ) (content old mid new : List ℕ) → n ≡ length content → n < 2 ^ 32 → mid ≡ content ++ old → new ≡ led inherited c (to_be_bytes w32 n ++ mid) → PutsWideSized inherited c content old new
sized_words inherited c n content old mid new e l m p = record {
  fits = subst (λ (k : ℕ). k < 2 ^ 32) e l;
  put = p ∙ (ap (λ (k : ℕ). led inherited c (to_be_bytes w32 k ++ mid)) e ∙ ap (λ (s : List ℕ). led inherited c (to_be_bytes w32 (length content) ++ s)) m);
}

binary_written : (inherited : Bool) (content : List ℕ) (o : Option (List ℕ)) → sized_of inherited 0xa0 0xb0 content ≡ o → scalar_of inherited 0xb0 (binary content) ≡ o
binary_written false content o e = e
binary_written true content o e = e

pub binary_put : (inherited : Bool) (content old new : List ℕ) → PutsSized inherited 0xa0 0xb0 content old new → PutsScalar inherited 0xb0 (reading (row_at (Some Vbin8)) content) old new
binary_put inherited content old new p = record { value = binary content; text = p.text; means = refl; written = binary_written inherited content (Some p.text) p.written; put = p.put }

string_written : (inherited : Bool) (content : List ℕ) (o : Option (List ℕ)) → is_utf8 content ≡ true → sized_of inherited 0xa1 0xb1 content ≡ o → scalar_of inherited 0xb1 (string content) ≡ o
string_written false content o u e = on_true _ _ _ u ∙ e
string_written true content o u e = ap (λ (q : Option (ℕ × List ℕ)). q >>= same_constructor 0xb1) (on_true _ (wide_sized 0xb1 content) None u) ∙ e

pub string_put : (inherited : Bool) (content old new : List ℕ) → is_utf8 content ≡ true → PutsSized inherited 0xa1 0xb1 content old new → PutsScalar inherited 0xb1 (reading (row_at (Some Str8)) content) old new
string_put inherited content old new u p = record { value = string content; text = p.text; means = on_true _ _ _ u; written = string_written inherited content (Some p.text) u p.written; put = p.put }

symbol_written : (inherited : Bool) (content : List ℕ) (o : Option (List ℕ)) → is_utf8 content ≡ true → sized_of inherited 0xa3 0xb3 content ≡ o → scalar_of inherited 0xb3 (symbol content) ≡ o
symbol_written false content o u e = on_true _ _ _ u ∙ e
symbol_written true content o u e = ap (λ (q : Option (ℕ × List ℕ)). q >>= same_constructor 0xb3) (on_true _ (wide_sized 0xb3 content) None u) ∙ e

pub symbol_put : (inherited : Bool) (content old new : List ℕ) → is_utf8 content ≡ true → PutsSized inherited 0xa3 0xb3 content old new → PutsScalar inherited 0xb3 (reading (row_at (Some Sym8)) content) old new
symbol_put inherited content old new u p = record { value = symbol content; text = p.text; means = on_true _ _ _ u; written = symbol_written inherited content (Some p.text) u p.written; put = p.put }

pub ruleset sized = (sized_element, sized_narrow, sized_wide, sized_words, binary_put, string_put, symbol_put)
