-- The canonical texts of scalars are forms of them.
use Rattle.std.proofs.Common.{◌≡◌, ℕ, ◌<◌, ◌^◌, ◌⊎◌, inl, inr, Bool, true, false, cond, List, [], ◌∷◌, ◌++◌, length, Option, Some, None, sym, ◌∙◌, ap, subst, refl, arith}
use Rattle.std.specs.Prelude.{nat_lt, ◌==◌, ℤ, pos, negsuc, FitsSigned}
use Rattle.std.specs.Int.{w8, w16, w32, w64, to_be_bytes, from_be_bytes, cast_signed, cast_unsigned}
use Rattle.std.specs.Str.{is_utf8}
use Rattle.std.proofs.lemmas.Nat.{from_be_bytes-to_be_bytes_2, from_be_bytes-to_be_bytes_4, from_be_bytes-to_be_bytes_8}
use Rattle.std.proofs.lemmas.Int.{to_z-of_z}
use Rattle.std.proofs.lemmas.Bool.Decides.{nat_tests}
use Rattle.std.proofs.Math.Utf8.{scalar_fits}
use Rattle.serde_amqp_item.specs.declared.codes.EncodingCodes.{EncodingCodes}
use Rattle.serde_amqp_item.specs.declared.codes.EncodingCodes.TheVariants.{Null, BooleanTrue, BooleanFalse, Boolean, UByte, UShort, UInt, SmallUInt, UInt0, ULong, SmallULong, ULong0, Byte, Short, Int, SmallInt, Long, SmallLong, Float, Double, Decimal32, Decimal64, Decimal128, Char, Timestamp, Uuid, Vbin8, Vbin32, Str8, Str32, Sym8, Sym32}
use Rattle.serde_amqp_item.specs.Item.{Scalar, null, boolean, ubyte, ushort, uint, ulong, byte, short, int, long, float, double, decimal32, decimal64, decimal128, char, timestamp, uuid, binary, string, symbol}
use Rattle.serde_amqp_item.specs.Wire.{one_byte, four_bytes, variable, Row, row_at, byte_of, ScalarForm, is_scalar_value, char_of}
use Rattle.serde_amqp_item.specs.Canon.{is_signed, sized_text, scalar_text, wide_sized, scalar_wide}

pub chosen : {A : Type 0} (b : Bool) (x y z : A) → cond b x y ≡ z → ((b ≡ true) × (x ≡ z)) ⊎ ((b ≡ false) × (y ≡ z))
chosen true x y z e = inl (refl, e)
chosen false x y z e = inr (refl, e)

-- a test that did not fail
pub passed : {A : Type 0} (b : Bool) (x y : A) → cond b (Some x) None ≡ Some y → (b ≡ true) × (x ≡ y)
passed true x y e = (refl, cc)
passed false x y e = absurd cc

pub passed_on : {A : Type 0} (b : Bool) (o : Option A) (y : A) → cond b o None ≡ Some y → (b ≡ true) × (o ≡ Some y)
passed_on true o y e = (refl, e)
passed_on false o y e = absurd cc

pub below : (m n : ℕ) → nat_lt m n ≡ true → m < n
below m n h = grind (arith, nat_tests)

pub equal : (m n : ℕ) → (m == n) ≡ true → m ≡ n
equal m n h = grind (arith, nat_tests)

-- signed numbers in their ranges
pub fits_8 : (z : ℤ) → is_signed 7 z ≡ true → FitsSigned w8 z
fits_8 (pos n) h = record { sfits = below n (2 ^ 7) h }
fits_8 (negsuc n) h = record { sfits = below n (2 ^ 7) h }

pub fits_16 : (z : ℤ) → is_signed 15 z ≡ true → FitsSigned w16 z
fits_16 (pos n) h = record { sfits = below n (2 ^ 15) h }
fits_16 (negsuc n) h = record { sfits = below n (2 ^ 15) h }

pub fits_32 : (z : ℤ) → is_signed 31 z ≡ true → FitsSigned w32 z
fits_32 (pos n) h = record { sfits = below n (2 ^ 31) h }
fits_32 (negsuc n) h = record { sfits = below n (2 ^ 31) h }

pub fits_64 : (z : ℤ) → is_signed 63 z ≡ true → FitsSigned w64 z
fits_64 (pos n) h = record { sfits = below n (2 ^ 63) h }
fits_64 (negsuc n) h = record { sfits = below n (2 ^ 63) h }

bits_16 : (z : ℤ) → is_signed 15 z ≡ true → cast_unsigned w16 z < 2 ^ 16
bits_16 (pos n) h = let b = below n (2 ^ 15) h in omega arith
bits_16 (negsuc n) h = omega arith

bits_32 : (z : ℤ) → is_signed 31 z ≡ true → cast_unsigned w32 z < 2 ^ 32
bits_32 (pos n) h = let b = below n (2 ^ 31) h in omega arith
bits_32 (negsuc n) h = omega arith

bits_64 : (z : ℤ) → is_signed 63 z ≡ true → cast_unsigned w64 z < 2 ^ 64
bits_64 (pos n) h = let b = below n (2 ^ 63) h in omega arith
bits_64 (negsuc n) h = omega arith

back_8 : (z : ℤ) → is_signed 7 z ≡ true → cast_signed w8 (cast_unsigned w8 z) ≡ z
back_8 z h = to_z-of_z w8 z (fits_8 z h)

pub back_16 : (z : ℤ) → is_signed 15 z ≡ true → cast_signed w16 (from_be_bytes w16 (to_be_bytes w16 (cast_unsigned w16 z))) ≡ z
back_16 z h = ap (cast_signed w16) (from_be_bytes-to_be_bytes_2 (cast_unsigned w16 z) (bits_16 z h)) ∙ to_z-of_z w16 z (fits_16 z h)

pub back_32 : (z : ℤ) → is_signed 31 z ≡ true → cast_signed w32 (from_be_bytes w32 (to_be_bytes w32 (cast_unsigned w32 z))) ≡ z
back_32 z h = ap (cast_signed w32) (from_be_bytes-to_be_bytes_4 (cast_unsigned w32 z) (bits_32 z h)) ∙ to_z-of_z w32 z (fits_32 z h)

pub back_64 : (z : ℤ) → is_signed 63 z ≡ true → cast_signed w64 (from_be_bytes w64 (to_be_bytes w64 (cast_unsigned w64 z))) ≡ z
back_64 z h = ap (cast_signed w64) (from_be_bytes-to_be_bytes_8 (cast_unsigned w64 z) (bits_64 z h)) ∙ to_z-of_z w64 z (fits_64 z h)

pub u16_back : (n : ℕ) → nat_lt n (2 ^ 16) ≡ true → from_be_bytes w16 (to_be_bytes w16 n) ≡ n
u16_back n h = from_be_bytes-to_be_bytes_2 n (below n (2 ^ 16) h)

pub u32_back : (n : ℕ) → nat_lt n (2 ^ 32) ≡ true → from_be_bytes w32 (to_be_bytes w32 n) ≡ n
u32_back n h = from_be_bytes-to_be_bytes_4 n (below n (2 ^ 32) h)

pub u64_back : (n : ℕ) → nat_lt n (2 ^ 64) ≡ true → from_be_bytes w64 (to_be_bytes w64 n) ≡ n
u64_back n h = from_be_bytes-to_be_bytes_8 n (below n (2 ^ 64) h)

pub char_read : (c : ℕ) → is_scalar_value c ≡ true → char_of (from_be_bytes w32 (to_be_bytes w32 c)) ≡ Some (char c)
char_read c h = ap char_of (from_be_bytes-to_be_bytes_4 c (scalar_fits c h)) ∙ ap (λ (b : Bool). cond b (Some (char c)) None) h

-- behind the byte of some constructor a form
pub record ScalarBegins (s : Scalar) (bytes : List ℕ) : Type 0 where
  pub code : EncodingCodes
  pub behind : List ℕ
  pub begins : bytes ≡ byte_of code ∷ behind
  pub form : ScalarForm s (row_at (Some code)) behind

text_begins : (s : Scalar) (code : EncodingCodes) (a bytes : List ℕ) → byte_of code ∷ a ≡ bytes → ScalarForm s (row_at (Some code)) a → ScalarBegins s bytes
text_begins s code a bytes e f = record { code = code; behind = a; begins = sym e; form = f }

-- the only form of its type
one_begins : (s : Scalar) (code : EncodingCodes) (a : List ℕ) (test : Bool) (bytes : List ℕ) → cond test (Some (byte_of code ∷ a)) None ≡ Some bytes → (test ≡ true → ScalarForm s (row_at (Some code)) a) → ScalarBegins s bytes
one_begins s code a test bytes e f =
    let p = passed test (byte_of code ∷ a) bytes e in
    text_begins s code a bytes p.1 (f p.0)

some_same : {A : Type 0} (x y : A) → Some x ≡ Some y → x ≡ y
some_same x y e = cc

sized_begins : (s : Scalar) (narrow wide : EncodingCodes) (content bytes : List ℕ) → sized_text (byte_of narrow) (byte_of wide) content ≡ Some bytes → (read : List ℕ → Option Scalar) → row_at (Some narrow) ≡ variable one_byte read → row_at (Some wide) ≡ variable four_bytes read → read content ≡ Some s → ScalarBegins s bytes
sized_begins s narrow wide content bytes e read n w r =
    elim (chosen (nat_lt (length content) 255) _ _ _ e) [
      | inl h ↦
          let short : length content < 255 = below _ _ h.0 in
          let form : ScalarForm s (variable one_byte read) (length content ∷ content) = (content, record { fits = omega arith; whole = refl }, r) in
          text_begins s narrow (length content ∷ content) bytes (some_same _ _ h.1) (subst (λ (row : Row). ScalarForm s row (length content ∷ content)) (sym n) form)
      | inr h ↦
          let p = passed (nat_lt (length content) (2 ^ 32)) (byte_of wide ∷ (to_be_bytes w32 (length content) ++ content)) bytes h.1 in
          let form : ScalarForm s (variable four_bytes read) (to_be_bytes w32 (length content) ++ content) = (content, record { fits = below _ _ p.0; whole = refl }, r) in
          text_begins s wide (to_be_bytes w32 (length content) ++ content) bytes p.1 (subst (λ (row : Row). ScalarForm s row (to_be_bytes w32 (length content) ++ content)) (sym w) form)
    ]

pub scalar_begins : (s : Scalar) (bytes : List ℕ) → scalar_text s ≡ Some bytes → ScalarBegins s bytes
scalar_begins null bytes e = text_begins null Null [] bytes (some_same _ _ e) (refl, refl)
scalar_begins (boolean true) bytes e = text_begins (boolean true) BooleanTrue [] bytes (some_same _ _ e) (refl, refl)
scalar_begins (boolean false) bytes e = text_begins (boolean false) BooleanFalse [] bytes (some_same _ _ e) (refl, refl)
scalar_begins (ubyte n) bytes e = one_begins (ubyte n) UByte (n ∷ []) (nat_lt n (2 ^ 8)) bytes e (λ h. (refl, refl))
scalar_begins (ushort n) bytes e = one_begins (ushort n) UShort (to_be_bytes w16 n) (nat_lt n (2 ^ 16)) bytes e (λ h. (refl, ap (λ (i : ℕ). Some (ushort i)) (u16_back n h)))
scalar_begins (uint n) bytes e =
    elim (chosen (n == 0) _ _ _ e) [
      | inl h ↦ text_begins (uint n) UInt0 [] bytes (some_same _ _ h.1) (refl, ap (λ (i : ℕ). Some (uint i)) (sym (equal n 0 h.0)))
      | inr h ↦ elim (chosen (nat_lt n (2 ^ 8)) _ _ _ h.1) [
        | inl k ↦ text_begins (uint n) SmallUInt (n ∷ []) bytes (some_same _ _ k.1) (refl, refl)
        | inr k ↦ one_begins (uint n) UInt (to_be_bytes w32 n) (nat_lt n (2 ^ 32)) bytes k.1 (λ g. (refl, ap (λ (i : ℕ). Some (uint i)) (u32_back n g)))
      ]
    ]
scalar_begins (ulong n) bytes e =
    elim (chosen (n == 0) _ _ _ e) [
      | inl h ↦ text_begins (ulong n) ULong0 [] bytes (some_same _ _ h.1) (refl, ap (λ (i : ℕ). Some (ulong i)) (sym (equal n 0 h.0)))
      | inr h ↦ elim (chosen (nat_lt n (2 ^ 8)) _ _ _ h.1) [
        | inl k ↦ text_begins (ulong n) SmallULong (n ∷ []) bytes (some_same _ _ k.1) (refl, refl)
        | inr k ↦ one_begins (ulong n) ULong (to_be_bytes w64 n) (nat_lt n (2 ^ 64)) bytes k.1 (λ g. (refl, ap (λ (i : ℕ). Some (ulong i)) (u64_back n g)))
      ]
    ]
scalar_begins (byte z) bytes e = one_begins (byte z) Byte (cast_unsigned w8 z ∷ []) (is_signed 7 z) bytes e (λ h. (refl, ap (λ (i : ℤ). Some (byte i)) (back_8 z h)))
scalar_begins (short z) bytes e = one_begins (short z) Short (to_be_bytes w16 (cast_unsigned w16 z)) (is_signed 15 z) bytes e (λ h. (refl, ap (λ (i : ℤ). Some (short i)) (back_16 z h)))
scalar_begins (int z) bytes e =
    elim (chosen (is_signed 7 z) _ _ _ e) [
      | inl h ↦ text_begins (int z) SmallInt (cast_unsigned w8 z ∷ []) bytes (some_same _ _ h.1) (refl, ap (λ (i : ℤ). Some (int i)) (back_8 z h.0))
      | inr h ↦ one_begins (int z) Int (to_be_bytes w32 (cast_unsigned w32 z)) (is_signed 31 z) bytes h.1 (λ g. (refl, ap (λ (i : ℤ). Some (int i)) (back_32 z g)))
    ]
scalar_begins (long z) bytes e =
    elim (chosen (is_signed 7 z) _ _ _ e) [
      | inl h ↦ text_begins (long z) SmallLong (cast_unsigned w8 z ∷ []) bytes (some_same _ _ h.1) (refl, ap (λ (i : ℤ). Some (long i)) (back_8 z h.0))
      | inr h ↦ one_begins (long z) Long (to_be_bytes w64 (cast_unsigned w64 z)) (is_signed 63 z) bytes h.1 (λ g. (refl, ap (λ (i : ℤ). Some (long i)) (back_64 z g)))
    ]
scalar_begins (float n) bytes e = one_begins (float n) Float (to_be_bytes w32 n) (nat_lt n (2 ^ 32)) bytes e (λ h. (refl, ap (λ (i : ℕ). Some (float i)) (u32_back n h)))
scalar_begins (double n) bytes e = one_begins (double n) Double (to_be_bytes w64 n) (nat_lt n (2 ^ 64)) bytes e (λ h. (refl, ap (λ (i : ℕ). Some (double i)) (u64_back n h)))
scalar_begins (decimal32 bs) bytes e = one_begins (decimal32 bs) Decimal32 bs (length bs == 4) bytes e (λ h. (equal _ _ h, refl))
scalar_begins (decimal64 bs) bytes e = one_begins (decimal64 bs) Decimal64 bs (length bs == 8) bytes e (λ h. (equal _ _ h, refl))
scalar_begins (decimal128 bs) bytes e = one_begins (decimal128 bs) Decimal128 bs (length bs == 16) bytes e (λ h. (equal _ _ h, refl))
scalar_begins (char c) bytes e = one_begins (char c) Char (to_be_bytes w32 c) (is_scalar_value c) bytes e (λ h. (refl, char_read c h))
scalar_begins (timestamp z) bytes e = one_begins (timestamp z) Timestamp (to_be_bytes w64 (cast_unsigned w64 z)) (is_signed 63 z) bytes e (λ h. (refl, ap (λ (i : ℤ). Some (timestamp i)) (back_64 z h)))
scalar_begins (uuid bs) bytes e = one_begins (uuid bs) Uuid bs (length bs == 16) bytes e (λ h. (equal _ _ h, refl))
scalar_begins (binary bs) bytes e = sized_begins (binary bs) Vbin8 Vbin32 bs bytes e _ refl refl refl
scalar_begins (string bs) bytes e =
    let p = passed_on (is_utf8 bs) (sized_text 0xa1 0xb1 bs) bytes e in
    sized_begins (string bs) Str8 Str32 bs bytes p.1 _ refl refl (ap (λ (b : Bool). cond b (Some (string bs)) None) p.0)
scalar_begins (symbol bs) bytes e =
    let p = passed_on (is_utf8 bs) (sized_text 0xa3 0xb3 bs) bytes e in
    sized_begins (symbol bs) Sym8 Sym32 bs bytes p.1 _ refl refl (ap (λ (b : Bool). cond b (Some (symbol bs)) None) p.0)

-- a wide form: behind the byte of a constructor that elements of an array may have, of at least one byte
pub record ScalarStands (s : Scalar) (p : ℕ × List ℕ) : Type 0 where
  pub code : EncodingCodes
  pub byte : p.0 ≡ byte_of code
  pub plain : 0x44 < p.0
  pub long : 0 < length p.1
  pub form : ScalarForm s (row_at (Some code)) p.1

wide_stands : (s : Scalar) (code : EncodingCodes) (a : List ℕ) (p : ℕ × List ℕ) → (byte_of code, a) ≡ p → 0x44 < byte_of code → 0 < length a → ScalarForm s (row_at (Some code)) a → ScalarStands s p
wide_stands s code a p e c l f = subst (ScalarStands s) e (record { code = code; byte = refl; plain = c; long = l; form = f })

one_stands : (s : Scalar) (code : EncodingCodes) (a : List ℕ) (test : Bool) (p : ℕ × List ℕ) → cond test (Some (byte_of code, a)) None ≡ Some p → 0x44 < byte_of code → (test ≡ true → 0 < length a) → (test ≡ true → ScalarForm s (row_at (Some code)) a) → ScalarStands s p
one_stands s code a test p e c l f =
    let h = passed test (byte_of code, a) p e in
    wide_stands s code a p h.1 c (l h.0) (f h.0)

sized_stands : (s : Scalar) (code : EncodingCodes) (content : List ℕ) (p : ℕ × List ℕ) → wide_sized (byte_of code) content ≡ Some p → 0x44 < byte_of code → (read : List ℕ → Option Scalar) → row_at (Some code) ≡ variable four_bytes read → read content ≡ Some s → ScalarStands s p
sized_stands s code content p e c read w r =
    let h = passed (nat_lt (length content) (2 ^ 32)) (byte_of code, to_be_bytes w32 (length content) ++ content) p e in
    let form : ScalarForm s (variable four_bytes read) (to_be_bytes w32 (length content) ++ content) = (content, record { fits = below _ _ h.0; whole = refl }, r) in
    wide_stands s code (to_be_bytes w32 (length content) ++ content) p h.1 c (omega arith) (subst (λ (row : Row). ScalarForm s row (to_be_bytes w32 (length content) ++ content)) (sym w) form)

bytes_long : (bs : List ℕ) (n : ℕ) → 0 < n → (length bs == n) ≡ true → 0 < length bs
bytes_long bs n l h = let e = equal (length bs) n h in omega arith

pub scalar_stands : (s : Scalar) (p : ℕ × List ℕ) → scalar_wide s ≡ Some p → ScalarStands s p
scalar_stands null p e = absurd cc
scalar_stands (boolean true) p e = wide_stands (boolean true) Boolean (1 ∷ []) p (some_same _ _ e) (omega arith) (omega arith) (refl, refl)
scalar_stands (boolean false) p e = wide_stands (boolean false) Boolean (0 ∷ []) p (some_same _ _ e) (omega arith) (omega arith) (refl, refl)
scalar_stands (ubyte n) p e = one_stands (ubyte n) UByte (n ∷ []) (nat_lt n (2 ^ 8)) p e (omega arith) (λ h. omega arith) (λ h. (refl, refl))
scalar_stands (ushort n) p e = one_stands (ushort n) UShort (to_be_bytes w16 n) (nat_lt n (2 ^ 16)) p e (omega arith) (λ h. omega arith) (λ h. (refl, ap (λ (i : ℕ). Some (ushort i)) (u16_back n h)))
scalar_stands (uint n) p e = one_stands (uint n) UInt (to_be_bytes w32 n) (nat_lt n (2 ^ 32)) p e (omega arith) (λ h. omega arith) (λ h. (refl, ap (λ (i : ℕ). Some (uint i)) (u32_back n h)))
scalar_stands (ulong n) p e = one_stands (ulong n) ULong (to_be_bytes w64 n) (nat_lt n (2 ^ 64)) p e (omega arith) (λ h. omega arith) (λ h. (refl, ap (λ (i : ℕ). Some (ulong i)) (u64_back n h)))
scalar_stands (byte z) p e = one_stands (byte z) Byte (cast_unsigned w8 z ∷ []) (is_signed 7 z) p e (omega arith) (λ h. omega arith) (λ h. (refl, ap (λ (i : ℤ). Some (byte i)) (back_8 z h)))
scalar_stands (short z) p e = one_stands (short z) Short (to_be_bytes w16 (cast_unsigned w16 z)) (is_signed 15 z) p e (omega arith) (λ h. omega arith) (λ h. (refl, ap (λ (i : ℤ). Some (short i)) (back_16 z h)))
scalar_stands (int z) p e = one_stands (int z) Int (to_be_bytes w32 (cast_unsigned w32 z)) (is_signed 31 z) p e (omega arith) (λ h. omega arith) (λ h. (refl, ap (λ (i : ℤ). Some (int i)) (back_32 z h)))
scalar_stands (long z) p e = one_stands (long z) Long (to_be_bytes w64 (cast_unsigned w64 z)) (is_signed 63 z) p e (omega arith) (λ h. omega arith) (λ h. (refl, ap (λ (i : ℤ). Some (long i)) (back_64 z h)))
scalar_stands (float n) p e = one_stands (float n) Float (to_be_bytes w32 n) (nat_lt n (2 ^ 32)) p e (omega arith) (λ h. omega arith) (λ h. (refl, ap (λ (i : ℕ). Some (float i)) (u32_back n h)))
scalar_stands (double n) p e = one_stands (double n) Double (to_be_bytes w64 n) (nat_lt n (2 ^ 64)) p e (omega arith) (λ h. omega arith) (λ h. (refl, ap (λ (i : ℕ). Some (double i)) (u64_back n h)))
scalar_stands (decimal32 bs) p e = one_stands (decimal32 bs) Decimal32 bs (length bs == 4) p e (omega arith) (λ h. bytes_long bs 4 (omega arith) h) (λ h. (equal _ _ h, refl))
scalar_stands (decimal64 bs) p e = one_stands (decimal64 bs) Decimal64 bs (length bs == 8) p e (omega arith) (λ h. bytes_long bs 8 (omega arith) h) (λ h. (equal _ _ h, refl))
scalar_stands (decimal128 bs) p e = one_stands (decimal128 bs) Decimal128 bs (length bs == 16) p e (omega arith) (λ h. bytes_long bs 16 (omega arith) h) (λ h. (equal _ _ h, refl))
scalar_stands (char c) p e = one_stands (char c) Char (to_be_bytes w32 c) (is_scalar_value c) p e (omega arith) (λ h. omega arith) (λ h. (refl, char_read c h))
scalar_stands (timestamp z) p e = one_stands (timestamp z) Timestamp (to_be_bytes w64 (cast_unsigned w64 z)) (is_signed 63 z) p e (omega arith) (λ h. omega arith) (λ h. (refl, ap (λ (i : ℤ). Some (timestamp i)) (back_64 z h)))
scalar_stands (uuid bs) p e = one_stands (uuid bs) Uuid bs (length bs == 16) p e (omega arith) (λ h. bytes_long bs 16 (omega arith) h) (λ h. (equal _ _ h, refl))
scalar_stands (binary bs) p e = sized_stands (binary bs) Vbin32 bs p e (omega arith) _ refl refl
scalar_stands (string bs) p e =
    let h = passed_on (is_utf8 bs) (wide_sized 0xb1 bs) p e in
    sized_stands (string bs) Str32 bs p h.1 (omega arith) _ refl (ap (λ (b : Bool). cond b (Some (string bs)) None) h.0)
scalar_stands (symbol bs) p e =
    let h = passed_on (is_utf8 bs) (wide_sized 0xb3 bs) p e in
    sized_stands (symbol bs) Sym32 bs p h.1 (omega arith) _ refl (ap (λ (b : Bool). cond b (Some (symbol bs)) None) h.0)
