-- A form behind a constructor is of the constructor's type.
use Rattle.std.proofs.Common.{◌≡◌, ◌≢◌, ℕ, Bool, cond, List, [], ◌∷◌, Option, Some, None, sym, ◌∙◌, ap, subst, refl, inl, inr}
use Rattle.std.specs.Prelude.{◌==◌}
use Rattle.std.specs.Int.{w32, from_be_bytes}
use Rattle.std.specs.Str.{is_utf8}
use Rattle.serde_amqp_item.specs.declared.codes.EncodingCodes.{EncodingCodes}
use Rattle.serde_amqp_item.specs.declared.codes.EncodingCodes.TheVariants.{DescribedType, Null, BooleanTrue, BooleanFalse, Boolean, UByte, UShort, UInt, SmallUInt, UInt0, ULong, SmallULong, ULong0, Byte, Short, Int, SmallInt, Long, SmallLong, Float, Double, Decimal32, Decimal64, Decimal128, Char, Timestamp, Uuid, Vbin8, Vbin32, Str8, Str32, Sym8, Sym32, List0, List8, List32, Map8, Map32, Array8, Array32}
use Rattle.serde_amqp_item.specs.Item.{Scalar, null, string, symbol, char, Item, scalar, raw, list, map, array, described}
use Rattle.serde_amqp_item.specs.Wire.{Form, Row, Wire, IsCapped, IsStrict, byte_of, row_of, row_at, boolean_at, is_scalar_value}
use Rattle.serde_amqp_item.specs.Kind.{kind_of, kind_at, boolean_kind, raw_kind}
use Rattle.serde_amqp_item.specs.Canon.{WithoutRaw}
use Rattle.serde_amqp_item.proofs.Constructors.{row_of_byte}
use Rattle.serde_amqp_item.proofs.Scalars.{chosen, passed}

pub scalar_kind : (t s : Scalar) → Some t ≡ Some s → kind_of (scalar s) ≡ kind_of (scalar t)
scalar_kind t s e = let same : t ≡ s = cc in ap (λ (u : Scalar). kind_of (scalar u)) (sym same)

boolean_kinds : (a : List ℕ) (s : Scalar) → boolean_at a ≡ Some s → kind_of (scalar s) ≡ boolean_kind
boolean_kinds [] s e = absurd cc
boolean_kinds (b ∷ []) s e = elim (chosen (b == 0) _ _ _ e) [
  | inl h ↦ scalar_kind _ s h.1
  | inr h ↦ elim (chosen (b == 1) _ _ _ h.1) [ inl k ↦ scalar_kind _ s k.1 | inr k ↦ let w = k.1 in absurd cc ]
]
boolean_kinds (a ∷ b ∷ bs) s e = absurd cc

-- where a test says whether there is a scalar
tested_kind : (test : Bool) (t s : Scalar) → cond test (Some t) None ≡ Some s → kind_of (scalar s) ≡ kind_of (scalar t)
tested_kind test t s e = let p = passed test t s e in ap (λ (u : Scalar). kind_of (scalar u)) (sym p.1)

scalar_not_raw : (s : Scalar) → kind_of (scalar s) ≡ raw_kind → ⊥
scalar_not_raw null e = absurd cc
scalar_not_raw s e = absurd cc

-- of an item that isn't raw
pub form_kind : (within : ℕ → Type 0) (kept : ℕ → List ℕ → Type 0) (code : EncodingCodes) (o : Option ℕ) (x : Item) (a : List ℕ) → kind_of x ≢ raw_kind → Form within kept x o (row_at (Some code)) a → kind_of x ≡ kind_at code
form_kind within kept code o (raw text) a n h = absurd (n refl)
form_kind within kept Boolean o (scalar s) a n h = boolean_kinds a s h.1
form_kind within kept Char o (scalar s) a n h = tested_kind (is_scalar_value (from_be_bytes w32 a)) (char (from_be_bytes w32 a)) s h.1
form_kind within kept Str8 o (scalar s) a n h = tested_kind (is_utf8 h.0) (string h.0) s h.2
form_kind within kept Str32 o (scalar s) a n h = tested_kind (is_utf8 h.0) (string h.0) s h.2
form_kind within kept Sym8 o (scalar s) a n h = tested_kind (is_utf8 h.0) (symbol h.0) s h.2
form_kind within kept Sym32 o (scalar s) a n h = tested_kind (is_utf8 h.0) (symbol h.0) s h.2
form_kind within kept Vbin8 o (scalar s) a n h = scalar_kind _ s h.2
form_kind within kept Vbin32 o (scalar s) a n h = scalar_kind _ s h.2
form_kind within kept Null o (scalar s) a n h = scalar_kind _ s h.1
form_kind within kept BooleanTrue o (scalar s) a n h = scalar_kind _ s h.1
form_kind within kept BooleanFalse o (scalar s) a n h = scalar_kind _ s h.1
form_kind within kept UByte o (scalar s) a n h = scalar_kind _ s h.1
form_kind within kept UShort o (scalar s) a n h = scalar_kind _ s h.1
form_kind within kept UInt o (scalar s) a n h = scalar_kind _ s h.1
form_kind within kept SmallUInt o (scalar s) a n h = scalar_kind _ s h.1
form_kind within kept UInt0 o (scalar s) a n h = scalar_kind _ s h.1
form_kind within kept ULong o (scalar s) a n h = scalar_kind _ s h.1
form_kind within kept SmallULong o (scalar s) a n h = scalar_kind _ s h.1
form_kind within kept ULong0 o (scalar s) a n h = scalar_kind _ s h.1
form_kind within kept Byte o (scalar s) a n h = scalar_kind _ s h.1
form_kind within kept Short o (scalar s) a n h = scalar_kind _ s h.1
form_kind within kept Int o (scalar s) a n h = scalar_kind _ s h.1
form_kind within kept SmallInt o (scalar s) a n h = scalar_kind _ s h.1
form_kind within kept Long o (scalar s) a n h = scalar_kind _ s h.1
form_kind within kept SmallLong o (scalar s) a n h = scalar_kind _ s h.1
form_kind within kept Float o (scalar s) a n h = scalar_kind _ s h.1
form_kind within kept Double o (scalar s) a n h = scalar_kind _ s h.1
form_kind within kept Decimal32 o (scalar s) a n h = scalar_kind _ s h.1
form_kind within kept Decimal64 o (scalar s) a n h = scalar_kind _ s h.1
form_kind within kept Decimal128 o (scalar s) a n h = scalar_kind _ s h.1
form_kind within kept Timestamp o (scalar s) a n h = scalar_kind _ s h.1
form_kind within kept Uuid o (scalar s) a n h = scalar_kind _ s h.1
form_kind within kept code o (scalar s) a n h = absurd h
form_kind within kept List0 o (list xs) a n h = refl
form_kind within kept List8 o (list xs) a n h = refl
form_kind within kept List32 o (list xs) a n h = refl
form_kind within kept code o (list xs) a n h = absurd h
form_kind within kept Map8 o (map ps) a n h = refl
form_kind within kept Map32 o (map ps) a n h = refl
form_kind within kept code o (map ps) a n h = absurd h
form_kind within kept Array8 o (array xs) a n h = refl
form_kind within kept Array32 o (array xs) a n h = refl
form_kind within kept code o (array xs) a n h = absurd h
form_kind within kept DescribedType o (described d v) a n h = refl
form_kind within kept code o (described d v) a n h = absurd h

not_raw : (x : Item) → WithoutRaw x → kind_of x ≢ raw_kind
not_raw (raw []) w = absurd w
not_raw (raw (c ∷ text)) w = absurd w
not_raw (scalar s) w = λ e. absurd (scalar_not_raw s e)
not_raw x w = λ e. cc

pub wire_kind : (x : Item) (code : EncodingCodes) (rest : List ℕ) → WithoutRaw x → Wire x None (byte_of code ∷ rest) → kind_of x ≡ kind_at code
wire_kind x code rest w h =
    let led : byte_of code ∷ rest ≡ h.0 ∷ h.1 = h.2 in
    let same : byte_of code ≡ h.0 = cc in
    let form = subst (λ (row : Row). Form IsCapped IsStrict x (Some h.0) row h.1) (ap row_of (sym same) ∙ row_of_byte code) h.3 in
    form_kind IsCapped IsStrict code (Some h.0) x h.1 (not_raw x w) form
