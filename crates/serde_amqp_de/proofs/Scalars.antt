-- Scalars of fixed widths.
use Rattle.std.proofs.Common.{◌≡◌, ◌≢◌, ℕ, zero, suc, ◌<◌, ◌≤◌, ◌^◌, [], ◌∷◌, length, true, false, Option, Some, None, refl, arith, ap}
use Rattle.std.specs.Prelude.{◌==◌}
use Rattle.std.proofs.lemmas.Bool.Decides.{nat_tests}
use Rattle.std.specs.Int.{w16, w32, w64, to_be_bytes}
use Rattle.std.proofs.lemmas.Nat.{from_be_bytes-to_be_bytes_2, from_be_bytes-to_be_bytes_4, from_be_bytes-to_be_bytes_8}
use Rattle.serde_amqp_item.specs.declared.codes.EncodingCodes.{EncodingCodes}
use Rattle.serde_amqp_item.specs.declared.codes.EncodingCodes.TheVariants.{Null, BooleanTrue, BooleanFalse, Boolean, UShort, UInt, SmallUInt, UInt0, ULong, SmallULong, ULong0}
use Rattle.serde_amqp_item.specs.Item.{null, boolean, ushort, uint, ulong, scalar}
use Rattle.serde_amqp_item.specs.Wire.{boolean_at}
use Rattle.serde_amqp_item.specs.Kind.{kind_at, null_kind, boolean_kind, ushort_kind, uint_kind, ulong_kind}
use Rattle.serde_amqp_de.specs.Reads.{At, Moves, Head, Reads, Refuses}
use Rattle.serde_amqp_de.specs.Takes.{TakesOnly, null_taken, boolean_taken, ushort_taken, uint_taken, ulong_taken}
use Rattle.serde_amqp_de.proofs.Heads.{stays, fixed_read, short_refuses, meaningless_refuses, wrong_kind}

only_null : TakesOnly null_taken null_kind
only_null (scalar null) p = absurd (p refl)
only_null (scalar s) p = refl
only_null x p = refl

pub not_null : (code : EncodingCodes) → code ≢ Null → kind_at code ≢ null_kind
not_null Null p = absurd (p refl)
not_null code p = λ e. cc

pub wrong_null : (k : Option ℕ) (old mid : At) (code : EncodingCodes) → Head k old mid code → code ≢ Null → Refuses null_taken k old
wrong_null k old mid code h p = wrong_kind null_taken null_kind k old mid code only_null (λ e. cc) h (not_null code p)

pub null_read : (k : Option ℕ) (old mid : At) → Head k old mid Null → Reads k old mid (scalar null)
null_read k old mid h = fixed_read k old mid mid Null [] 0 _ null h refl (stays mid) refl refl

pub ruleset nulls = (wrong_null, null_read)

only_boolean : TakesOnly boolean_taken boolean_kind
only_boolean (scalar (boolean b)) p = absurd (p refl)
only_boolean (scalar s) p = refl
only_boolean x p = refl

pub not_boolean : (code : EncodingCodes) → code ≢ BooleanTrue → code ≢ BooleanFalse → code ≢ Boolean → kind_at code ≢ boolean_kind
not_boolean BooleanTrue p q r = absurd (p refl)
not_boolean BooleanFalse p q r = absurd (q refl)
not_boolean Boolean p q r = absurd (r refl)
not_boolean code p q r = λ e. cc

pub wrong_boolean : (k : Option ℕ) (old mid : At) (code : EncodingCodes) → Head k old mid code → code ≢ BooleanTrue → code ≢ BooleanFalse → code ≢ Boolean → Refuses boolean_taken k old
wrong_boolean k old mid code h p q r = wrong_kind boolean_taken boolean_kind k old mid code only_boolean (λ e. cc) h (not_boolean code p q r)

pub true_read : (k : Option ℕ) (old mid : At) → Head k old mid BooleanTrue → Reads k old mid (scalar (boolean true))
true_read k old mid h = fixed_read k old mid mid BooleanTrue [] 0 _ (boolean true) h refl (stays mid) refl refl

pub false_read : (k : Option ℕ) (old mid : At) → Head k old mid BooleanFalse → Reads k old mid (scalar (boolean false))
false_read k old mid h = fixed_read k old mid mid BooleanFalse [] 0 _ (boolean false) h refl (stays mid) refl refl

boolean_of : (b : ℕ) → b ≤ 1 → boolean_at (b ∷ []) ≡ Some (boolean (b == 1))
boolean_of zero l = refl
boolean_of (suc zero) l = refl
boolean_of (suc (suc b)) l = absurd (omega arith)

not_equal : (a b : ℕ) → b < a → (a == b) ≡ false
not_equal a b n = grind (arith, nat_tests)

pub boolean_read : (k : Option ℕ) (old mid new : At) (b : ℕ) → Head k old mid Boolean → Moves mid new (b ∷ []) → b ≤ 1 → Reads k old new (scalar (boolean (b == 1)))
boolean_read k old mid new b h m l = fixed_read k old mid new Boolean (b ∷ []) 1 boolean_at (boolean (b == 1)) h refl m refl (boolean_of b l)

pub no_truth : (b : ℕ) → 1 < b → boolean_at (b ∷ []) ≡ None
no_truth b l = rw (not_equal b 0 (omega (arith, l)), not_equal b 1 l) refl

pub no_boolean : (k : Option ℕ) (old mid new : At) (b : ℕ) → Head k old mid Boolean → Moves mid new (b ∷ []) → 1 < b → Refuses boolean_taken k old
no_boolean k old mid new b h m l = meaningless_refuses boolean_taken k old mid new Boolean 1 boolean_at (b ∷ []) (λ t. refl) h refl m refl (no_truth b l)

pub short_boolean : (k : Option ℕ) (old mid : At) → Head k old mid Boolean → mid.rest ≡ [] → Refuses boolean_taken k old
short_boolean k old mid h z = short_refuses boolean_taken k old mid Boolean 1 _ (λ t. refl) h refl (omega (arith, ap length z))

pub ruleset booleans = (wrong_boolean, true_read, false_read, boolean_read, no_boolean, short_boolean)

only_ushort : TakesOnly ushort_taken ushort_kind
only_ushort (scalar (ushort n)) p = absurd (p refl)
only_ushort (scalar s) p = refl
only_ushort x p = refl

pub not_ushort : (code : EncodingCodes) → code ≢ UShort → kind_at code ≢ ushort_kind
not_ushort UShort p = absurd (p refl)
not_ushort code p = λ e. cc

pub wrong_ushort : (k : Option ℕ) (old mid : At) (code : EncodingCodes) → Head k old mid code → code ≢ UShort → Refuses ushort_taken k old
wrong_ushort k old mid code h p = wrong_kind ushort_taken ushort_kind k old mid code only_ushort (λ e. cc) h (not_ushort code p)

pub ushort_wide : (k : Option ℕ) (old mid new : At) (n : ℕ) → Head k old mid UShort → Moves mid new (to_be_bytes w16 n) → n < 2 ^ 16 → Reads k old new (scalar (ushort n))
ushort_wide k old mid new n h m l = fixed_read k old mid new UShort (to_be_bytes w16 n) 2 _ (ushort n) h refl m refl (ap (λ (i : ℕ). Some (ushort i)) (from_be_bytes-to_be_bytes_2 n l))

pub no_ushort : (k : Option ℕ) (old mid : At) → Head k old mid UShort → length mid.rest < 2 → Refuses ushort_taken k old
no_ushort k old mid h z = short_refuses ushort_taken k old mid UShort 2 _ (λ t. refl) h refl z

pub ruleset ushorts = (wrong_ushort, ushort_wide, no_ushort)

only_uint : TakesOnly uint_taken uint_kind
only_uint (scalar (uint n)) p = absurd (p refl)
only_uint (scalar s) p = refl
only_uint x p = refl

pub not_uint : (code : EncodingCodes) → code ≢ UInt0 → code ≢ SmallUInt → code ≢ UInt → kind_at code ≢ uint_kind
not_uint UInt0 p q r = absurd (p refl)
not_uint SmallUInt p q r = absurd (q refl)
not_uint UInt p q r = absurd (r refl)
not_uint code p q r = λ e. cc

pub wrong_uint : (k : Option ℕ) (old mid : At) (code : EncodingCodes) → Head k old mid code → code ≢ UInt0 → code ≢ SmallUInt → code ≢ UInt → Refuses uint_taken k old
wrong_uint k old mid code h p q r = wrong_kind uint_taken uint_kind k old mid code only_uint (λ e. cc) h (not_uint code p q r)

pub uint_zero : (k : Option ℕ) (old mid : At) → Head k old mid UInt0 → Reads k old mid (scalar (uint 0))
uint_zero k old mid h = fixed_read k old mid mid UInt0 [] 0 _ (uint 0) h refl (stays mid) refl refl

pub uint_small : (k : Option ℕ) (old mid new : At) (n : ℕ) → Head k old mid SmallUInt → Moves mid new (n ∷ []) → Reads k old new (scalar (uint n))
uint_small k old mid new n h m = fixed_read k old mid new SmallUInt (n ∷ []) 1 _ (uint n) h refl m refl refl

pub uint_wide : (k : Option ℕ) (old mid new : At) (n : ℕ) → Head k old mid UInt → Moves mid new (to_be_bytes w32 n) → n < 2 ^ 32 → Reads k old new (scalar (uint n))
uint_wide k old mid new n h m l = fixed_read k old mid new UInt (to_be_bytes w32 n) 4 _ (uint n) h refl m refl (ap (λ (i : ℕ). Some (uint i)) (from_be_bytes-to_be_bytes_4 n l))

pub no_uint_small : (k : Option ℕ) (old mid : At) → Head k old mid SmallUInt → mid.rest ≡ [] → Refuses uint_taken k old
no_uint_small k old mid h z = short_refuses uint_taken k old mid SmallUInt 1 _ (λ t. refl) h refl (omega (arith, ap length z))

pub no_uint_wide : (k : Option ℕ) (old mid : At) → Head k old mid UInt → length mid.rest < 4 → Refuses uint_taken k old
no_uint_wide k old mid h z = short_refuses uint_taken k old mid UInt 4 _ (λ t. refl) h refl z

pub ruleset uints = (wrong_uint, uint_zero, uint_small, uint_wide, no_uint_small, no_uint_wide)

only_ulong : TakesOnly ulong_taken ulong_kind
only_ulong (scalar (ulong n)) p = absurd (p refl)
only_ulong (scalar s) p = refl
only_ulong x p = refl

pub not_ulong : (code : EncodingCodes) → code ≢ ULong0 → code ≢ SmallULong → code ≢ ULong → kind_at code ≢ ulong_kind
not_ulong ULong0 p q r = absurd (p refl)
not_ulong SmallULong p q r = absurd (q refl)
not_ulong ULong p q r = absurd (r refl)
not_ulong code p q r = λ e. cc

pub wrong_ulong : (k : Option ℕ) (old mid : At) (code : EncodingCodes) → Head k old mid code → code ≢ ULong0 → code ≢ SmallULong → code ≢ ULong → Refuses ulong_taken k old
wrong_ulong k old mid code h p q r = wrong_kind ulong_taken ulong_kind k old mid code only_ulong (λ e. cc) h (not_ulong code p q r)

pub ulong_zero : (k : Option ℕ) (old mid : At) → Head k old mid ULong0 → Reads k old mid (scalar (ulong 0))
ulong_zero k old mid h = fixed_read k old mid mid ULong0 [] 0 _ (ulong 0) h refl (stays mid) refl refl

pub ulong_small : (k : Option ℕ) (old mid new : At) (n : ℕ) → Head k old mid SmallULong → Moves mid new (n ∷ []) → Reads k old new (scalar (ulong n))
ulong_small k old mid new n h m = fixed_read k old mid new SmallULong (n ∷ []) 1 _ (ulong n) h refl m refl refl

pub ulong_wide : (k : Option ℕ) (old mid new : At) (n : ℕ) → Head k old mid ULong → Moves mid new (to_be_bytes w64 n) → n < 2 ^ 64 → Reads k old new (scalar (ulong n))
ulong_wide k old mid new n h m l = fixed_read k old mid new ULong (to_be_bytes w64 n) 8 _ (ulong n) h refl m refl (ap (λ (i : ℕ). Some (ulong i)) (from_be_bytes-to_be_bytes_8 n l))

pub no_ulong_small : (k : Option ℕ) (old mid : At) → Head k old mid SmallULong → mid.rest ≡ [] → Refuses ulong_taken k old
no_ulong_small k old mid h z = short_refuses ulong_taken k old mid SmallULong 1 _ (λ t. refl) h refl (omega (arith, ap length z))

pub no_ulong_wide : (k : Option ℕ) (old mid : At) → Head k old mid ULong → length mid.rest < 8 → Refuses ulong_taken k old
no_ulong_wide k old mid h z = short_refuses ulong_taken k old mid ULong 8 _ (λ t. refl) h refl z

pub ruleset ulongs = (wrong_ulong, ulong_zero, ulong_small, ulong_wide, no_ulong_small, no_ulong_wide)
