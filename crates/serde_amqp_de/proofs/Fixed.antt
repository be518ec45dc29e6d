-- The scalars of fixed widths beside booleans and unsigned numbers.
use Rattle.std.proofs.Common.{◌≡◌, ◌≢◌, ℕ, ◌<◌, ◌^◌, List, [], ◌∷◌, length, Bool, true, false, cond, Option, Some, None, refl, arith, ap, ◌∙◌}
use Rattle.std.specs.Char.{IsScalar}
use Rattle.std.specs.Int.{w8, w16, w32, w64, to_be_bytes, from_be_bytes, cast_signed}
use Rattle.std.proofs.lemmas.Nat.{from_be_bytes-to_be_bytes_2, from_be_bytes-to_be_bytes_4, from_be_bytes-to_be_bytes_8}
use Rattle.serde_amqp_item.specs.declared.codes.EncodingCodes.{EncodingCodes}
use Rattle.serde_amqp_item.specs.declared.codes.EncodingCodes.TheVariants.{UByte, Byte, Short, Int, SmallInt, Long, SmallLong, Float, Double, Decimal32, Decimal64, Decimal128, Char, Timestamp, Uuid}
use Rattle.serde_amqp_item.specs.Item.{ubyte, byte, short, int, long, float, double, decimal32, decimal64, decimal128, char, timestamp, uuid, scalar}
use Rattle.serde_amqp_item.specs.Wire.{char_of, is_scalar_value}
use Rattle.serde_amqp_item.specs.Kind.{kind_at, ubyte_kind, byte_kind, short_kind, int_kind, long_kind, float_kind, double_kind, decimal32_kind, decimal64_kind, decimal128_kind, char_kind, timestamp_kind, uuid_kind}
use Rattle.serde_amqp_de.specs.Reads.{At, Moves, Head, Reads, Refuses}
use Rattle.serde_amqp_de.specs.Takes.{TakesOnly, ubyte_taken, byte_taken, short_taken, int_taken, long_taken, float_taken, double_taken, decimal32_taken, decimal64_taken, decimal128_taken, char_taken, timestamp_taken, uuid_taken}
use Rattle.serde_amqp_de.proofs.Heads.{fixed_read, short_refuses, meaningless_refuses, wrong_kind}

only_ubyte : TakesOnly ubyte_taken ubyte_kind
only_ubyte (scalar (ubyte x)) p = absurd (p refl)
only_ubyte (scalar s) p = refl
only_ubyte x p = refl

pub not_ubyte : (code : EncodingCodes) → code ≢ UByte → kind_at code ≢ ubyte_kind
not_ubyte UByte p = absurd (p refl)
not_ubyte code p = λ e. cc

pub wrong_ubyte : (k : Option ℕ) (old mid : At) (code : EncodingCodes) → Head k old mid code → code ≢ UByte → Refuses ubyte_taken k old
wrong_ubyte k old mid code h p = wrong_kind ubyte_taken ubyte_kind k old mid code only_ubyte (λ e. cc) h (not_ubyte code p)

pub ubyte_read : (k : Option ℕ) (old mid new : At) (n : ℕ) → Head k old mid UByte → Moves mid new (n ∷ []) → Reads k old new (scalar (ubyte n))
ubyte_read k old mid new n h m = fixed_read k old mid new UByte (n ∷ []) 1 _ (ubyte n) h refl m refl refl

pub short_ubyte : (k : Option ℕ) (old mid : At) → Head k old mid UByte → mid.rest ≡ [] → Refuses ubyte_taken k old
short_ubyte k old mid h z = short_refuses ubyte_taken k old mid UByte 1 _ (λ t. refl) h refl (omega (arith, ap length z))

pub ruleset ubytes = (wrong_ubyte, ubyte_read, short_ubyte)

only_byte : TakesOnly byte_taken byte_kind
only_byte (scalar (byte x)) p = absurd (p refl)
only_byte (scalar s) p = refl
only_byte x p = refl

pub not_byte : (code : EncodingCodes) → code ≢ Byte → kind_at code ≢ byte_kind
not_byte Byte p = absurd (p refl)
not_byte code p = λ e. cc

pub wrong_byte : (k : Option ℕ) (old mid : At) (code : EncodingCodes) → Head k old mid code → code ≢ Byte → Refuses byte_taken k old
wrong_byte k old mid code h p = wrong_kind byte_taken byte_kind k old mid code only_byte (λ e. cc) h (not_byte code p)

pub byte_read : (k : Option ℕ) (old mid new : At) (n : ℕ) → Head k old mid Byte → Moves mid new (n ∷ []) → Reads k old new (scalar (byte (cast_signed w8 n)))
byte_read k old mid new n h m = fixed_read k old mid new Byte (n ∷ []) 1 _ (byte (cast_signed w8 n)) h refl m refl refl

pub short_byte : (k : Option ℕ) (old mid : At) → Head k old mid Byte → mid.rest ≡ [] → Refuses byte_taken k old
short_byte k old mid h z = short_refuses byte_taken k old mid Byte 1 _ (λ t. refl) h refl (omega (arith, ap length z))

pub ruleset bytes = (wrong_byte, byte_read, short_byte)

only_short : TakesOnly short_taken short_kind
only_short (scalar (short x)) p = absurd (p refl)
only_short (scalar s) p = refl
only_short x p = refl

pub not_short : (code : EncodingCodes) → code ≢ Short → kind_at code ≢ short_kind
not_short Short p = absurd (p refl)
not_short code p = λ e. cc

pub wrong_short : (k : Option ℕ) (old mid : At) (code : EncodingCodes) → Head k old mid code → code ≢ Short → Refuses short_taken k old
wrong_short k old mid code h p = wrong_kind short_taken short_kind k old mid code only_short (λ e. cc) h (not_short code p)

pub short_read : (k : Option ℕ) (old mid new : At) (n : ℕ) → Head k old mid Short → Moves mid new (to_be_bytes w16 n) → n < 2 ^ 16 → Reads k old new (scalar (short (cast_signed w16 n)))
short_read k old mid new n h m l = fixed_read k old mid new Short (to_be_bytes w16 n) 2 _ (short (cast_signed w16 n)) h refl m refl (ap (λ (i : ℕ). Some (short (cast_signed w16 i))) (from_be_bytes-to_be_bytes_2 n l))

pub short_short : (k : Option ℕ) (old mid : At) → Head k old mid Short → length mid.rest < 2 → Refuses short_taken k old
short_short k old mid h z = short_refuses short_taken k old mid Short 2 _ (λ t. refl) h refl z

pub ruleset shorts = (wrong_short, short_read, short_short)

only_int : TakesOnly int_taken int_kind
only_int (scalar (int x)) p = absurd (p refl)
only_int (scalar s) p = refl
only_int x p = refl

pub not_int : (code : EncodingCodes) → code ≢ Int → code ≢ SmallInt → kind_at code ≢ int_kind
not_int Int p q = absurd (p refl)
not_int SmallInt p q = absurd (q refl)
not_int code p q = λ e. cc

pub wrong_int : (k : Option ℕ) (old mid : At) (code : EncodingCodes) → Head k old mid code → code ≢ Int → code ≢ SmallInt → Refuses int_taken k old
wrong_int k old mid code h p q = wrong_kind int_taken int_kind k old mid code only_int (λ e. cc) h (not_int code p q)

pub int_small : (k : Option ℕ) (old mid new : At) (n : ℕ) → Head k old mid SmallInt → Moves mid new (n ∷ []) → Reads k old new (scalar (int (cast_signed w8 n)))
int_small k old mid new n h m = fixed_read k old mid new SmallInt (n ∷ []) 1 _ (int (cast_signed w8 n)) h refl m refl refl

pub int_wide : (k : Option ℕ) (old mid new : At) (n : ℕ) → Head k old mid Int → Moves mid new (to_be_bytes w32 n) → n < 2 ^ 32 → Reads k old new (scalar (int (cast_signed w32 n)))
int_wide k old mid new n h m l = fixed_read k old mid new Int (to_be_bytes w32 n) 4 _ (int (cast_signed w32 n)) h refl m refl (ap (λ (i : ℕ). Some (int (cast_signed w32 i))) (from_be_bytes-to_be_bytes_4 n l))

pub short_int8 : (k : Option ℕ) (old mid : At) → Head k old mid SmallInt → mid.rest ≡ [] → Refuses int_taken k old
short_int8 k old mid h z = short_refuses int_taken k old mid SmallInt 1 _ (λ t. refl) h refl (omega (arith, ap length z))

pub short_int32 : (k : Option ℕ) (old mid : At) → Head k old mid Int → length mid.rest < 4 → Refuses int_taken k old
short_int32 k old mid h z = short_refuses int_taken k old mid Int 4 _ (λ t. refl) h refl z

pub ruleset ints = (wrong_int, int_small, int_wide, short_int8, short_int32)

only_long : TakesOnly long_taken long_kind
only_long (scalar (long x)) p = absurd (p refl)
only_long (scalar s) p = refl
only_long x p = refl

pub not_long : (code : EncodingCodes) → code ≢ Long → code ≢ SmallLong → kind_at code ≢ long_kind
not_long Long p q = absurd (p refl)
not_long SmallLong p q = absurd (q refl)
not_long code p q = λ e. cc

pub wrong_long : (k : Option ℕ) (old mid : At) (code : EncodingCodes) → Head k old mid code → code ≢ Long → code ≢ SmallLong → Refuses long_taken k old
wrong_long k old mid code h p q = wrong_kind long_taken long_kind k old mid code only_long (λ e. cc) h (not_long code p q)

pub long_small : (k : Option ℕ) (old mid new : At) (n : ℕ) → Head k old mid SmallLong → Moves mid new (n ∷ []) → Reads k old new (scalar (long (cast_signed w8 n)))
long_small k old mid new n h m = fixed_read k old mid new SmallLong (n ∷ []) 1 _ (long (cast_signed w8 n)) h refl m refl refl

pub long_wide : (k : Option ℕ) (old mid new : At) (n : ℕ) → Head k old mid Long → Moves mid new (to_be_bytes w64 n) → n < 2 ^ 64 → Reads k old new (scalar (long (cast_signed w64 n)))
long_wide k old mid new n h m l = fixed_read k old mid new Long (to_be_bytes w64 n) 8 _ (long (cast_signed w64 n)) h refl m refl (ap (λ (i : ℕ). Some (long (cast_signed w64 i))) (from_be_bytes-to_be_bytes_8 n l))

pub short_long8 : (k : Option ℕ) (old mid : At) → Head k old mid SmallLong → mid.rest ≡ [] → Refuses long_taken k old
short_long8 k old mid h z = short_refuses long_taken k old mid SmallLong 1 _ (λ t. refl) h refl (omega (arith, ap length z))

pub short_long64 : (k : Option ℕ) (old mid : At) → Head k old mid Long → length mid.rest < 8 → Refuses long_taken k old
short_long64 k old mid h z = short_refuses long_taken k old mid Long 8 _ (λ t. refl) h refl z

pub ruleset longs = (wrong_long, long_small, long_wide, short_long8, short_long64)

only_float : TakesOnly float_taken float_kind
only_float (scalar (float x)) p = absurd (p refl)
only_float (scalar s) p = refl
only_float x p = refl

pub not_float : (code : EncodingCodes) → code ≢ Float → kind_at code ≢ float_kind
not_float Float p = absurd (p refl)
not_float code p = λ e. cc

pub wrong_float : (k : Option ℕ) (old mid : At) (code : EncodingCodes) → Head k old mid code → code ≢ Float → Refuses float_taken k old
wrong_float k old mid code h p = wrong_kind float_taken float_kind k old mid code only_float (λ e. cc) h (not_float code p)

pub float_read : (k : Option ℕ) (old mid new : At) (n : ℕ) → Head k old mid Float → Moves mid new (to_be_bytes w32 n) → n < 2 ^ 32 → Reads k old new (scalar (float n))
float_read k old mid new n h m l = fixed_read k old mid new Float (to_be_bytes w32 n) 4 _ (float n) h refl m refl (ap (λ (i : ℕ). Some (float i)) (from_be_bytes-to_be_bytes_4 n l))

pub short_float : (k : Option ℕ) (old mid : At) → Head k old mid Float → length mid.rest < 4 → Refuses float_taken k old
short_float k old mid h z = short_refuses float_taken k old mid Float 4 _ (λ t. refl) h refl z

pub ruleset floats = (wrong_float, float_read, short_float)

only_double : TakesOnly double_taken double_kind
only_double (scalar (double x)) p = absurd (p refl)
only_double (scalar s) p = refl
only_double x p = refl

pub not_double : (code : EncodingCodes) → code ≢ Double → kind_at code ≢ double_kind
not_double Double p = absurd (p refl)
not_double code p = λ e. cc

pub wrong_double : (k : Option ℕ) (old mid : At) (code : EncodingCodes) → Head k old mid code → code ≢ Double → Refuses double_taken k old
wrong_double k old mid code h p = wrong_kind double_taken double_kind k old mid code only_double (λ e. cc) h (not_double code p)

pub double_read : (k : Option ℕ) (old mid new : At) (n : ℕ) → Head k old mid Double → Moves mid new (to_be_bytes w64 n) → n < 2 ^ 64 → Reads k old new (scalar (double n))
double_read k old mid new n h m l = fixed_read k old mid new Double (to_be_bytes w64 n) 8 _ (double n) h refl m refl (ap (λ (i : ℕ). Some (double i)) (from_be_bytes-to_be_bytes_8 n l))

pub short_double : (k : Option ℕ) (old mid : At) → Head k old mid Double → length mid.rest < 8 → Refuses double_taken k old
short_double k old mid h z = short_refuses double_taken k old mid Double 8 _ (λ t. refl) h refl z

pub ruleset doubles = (wrong_double, double_read, short_double)

only_decimal32 : TakesOnly decimal32_taken decimal32_kind
only_decimal32 (scalar (decimal32 x)) p = absurd (p refl)
only_decimal32 (scalar s) p = refl
only_decimal32 x p = refl

pub not_decimal32 : (code : EncodingCodes) → code ≢ Decimal32 → kind_at code ≢ decimal32_kind
not_decimal32 Decimal32 p = absurd (p refl)
not_decimal32 code p = λ e. cc

pub wrong_decimal32 : (k : Option ℕ) (old mid : At) (code : EncodingCodes) → Head k old mid code → code ≢ Decimal32 → Refuses decimal32_taken k old
wrong_decimal32 k old mid code h p = wrong_kind decimal32_taken decimal32_kind k old mid code only_decimal32 (λ e. cc) h (not_decimal32 code p)

pub decimal32_read : (k : Option ℕ) (old mid new : At) (bs : List ℕ) → Head k old mid Decimal32 → Moves mid new bs → length bs ≡ 4 → Reads k old new (scalar (decimal32 bs))
decimal32_read k old mid new bs h m l = fixed_read k old mid new Decimal32 bs 4 _ (decimal32 bs) h refl m l refl

pub short_decimal32 : (k : Option ℕ) (old mid : At) → Head k old mid Decimal32 → length mid.rest < 4 → Refuses decimal32_taken k old
short_decimal32 k old mid h z = short_refuses decimal32_taken k old mid Decimal32 4 _ (λ t. refl) h refl z

pub ruleset decimal32s = (wrong_decimal32, decimal32_read, short_decimal32)

only_decimal64 : TakesOnly decimal64_taken decimal64_kind
only_decimal64 (scalar (decimal64 x)) p = absurd (p refl)
only_decimal64 (scalar s) p = refl
only_decimal64 x p = refl

pub not_decimal64 : (code : EncodingCodes) → code ≢ Decimal64 → kind_at code ≢ decimal64_kind
not_decimal64 Decimal64 p = absurd (p refl)
not_decimal64 code p = λ e. cc

pub wrong_decimal64 : (k : Option ℕ) (old mid : At) (code : EncodingCodes) → Head k old mid code → code ≢ Decimal64 → Refuses decimal64_taken k old
wrong_decimal64 k old mid code h p = wrong_kind decimal64_taken decimal64_kind k old mid code only_decimal64 (λ e. cc) h (not_decimal64 code p)

pub decimal64_read : (k : Option ℕ) (old mid new : At) (bs : List ℕ) → Head k old mid Decimal64 → Moves mid new bs → length bs ≡ 8 → Reads k old new (scalar (decimal64 bs))
decimal64_read k old mid new bs h m l = fixed_read k old mid new Decimal64 bs 8 _ (decimal64 bs) h refl m l refl

pub short_decimal64 : (k : Option ℕ) (old mid : At) → Head k old mid Decimal64 → length mid.rest < 8 → Refuses decimal64_taken k old
short_decimal64 k old mid h z = short_refuses decimal64_taken k old mid Decimal64 8 _ (λ t. refl) h refl z

pub ruleset decimal64s = (wrong_decimal64, decimal64_read, short_decimal64)

only_decimal128 : TakesOnly decimal128_taken decimal128_kind
only_decimal128 (scalar (decimal128 x)) p = absurd (p refl)
only_decimal128 (scalar s) p = refl
only_decimal128 x p = refl

pub not_decimal128 : (code : EncodingCodes) → code ≢ Decimal128 → kind_at code ≢ decimal128_kind
not_decimal128 Decimal128 p = absurd (p refl)
not_decimal128 code p = λ e. cc

pub wrong_decimal128 : (k : Option ℕ) (old mid : At) (code : EncodingCodes) → Head k old mid code → code ≢ Decimal128 → Refuses decimal128_taken k old
wrong_decimal128 k old mid code h p = wrong_kind decimal128_taken decimal128_kind k old mid code only_decimal128 (λ e. cc) h (not_decimal128 code p)

pub decimal128_read : (k : Option ℕ) (old mid new : At) (bs : List ℕ) → Head k old mid Decimal128 → Moves mid new bs → length bs ≡ 16 → Reads k old new (scalar (decimal128 bs))
decimal128_read k old mid new bs h m l = fixed_read k old mid new Decimal128 bs 16 _ (decimal128 bs) h refl m l refl

pub short_decimal128 : (k : Option ℕ) (old mid : At) → Head k old mid Decimal128 → length mid.rest < 16 → Refuses decimal128_taken k old
short_decimal128 k old mid h z = short_refuses decimal128_taken k old mid Decimal128 16 _ (λ t. refl) h refl z

pub ruleset decimal128s = (wrong_decimal128, decimal128_read, short_decimal128)

only_char : TakesOnly char_taken char_kind
only_char (scalar (char x)) p = absurd (p refl)
only_char (scalar s) p = refl
only_char x p = refl

pub not_char : (code : EncodingCodes) → code ≢ Char → kind_at code ≢ char_kind
not_char Char p = absurd (p refl)
not_char code p = λ e. cc

pub wrong_char : (k : Option ℕ) (old mid : At) (code : EncodingCodes) → Head k old mid code → code ≢ Char → Refuses char_taken k old
wrong_char k old mid code h p = wrong_kind char_taken char_kind k old mid code only_char (λ e. cc) h (not_char code p)

pub char_read : (k : Option ℕ) (old mid new : At) (n : ℕ) → Head k old mid Char → Moves mid new (to_be_bytes w32 n) → n < 2 ^ 32 → IsScalar n → Reads k old new (scalar (char n))
char_read k old mid new n h m l u = fixed_read k old mid new Char (to_be_bytes w32 n) 4 _ (char n) h refl m refl (ap char_of (from_be_bytes-to_be_bytes_4 n l) ∙ ap (λ (b : Bool). cond b (Some (char n)) None) u)

not_scalar : (n : ℕ) → (is_scalar_value n ≡ true → ⊥) → (b : Bool) → is_scalar_value n ≡ b → is_scalar_value n ≡ false
not_scalar n never true e = absurd (never e)
not_scalar n never false e = e

pub no_character : (n : ℕ) → n < 2 ^ 32 → (IsScalar n → ⊥) → char_of (from_be_bytes w32 (to_be_bytes w32 n)) ≡ None
no_character n l never = ap char_of (from_be_bytes-to_be_bytes_4 n l) ∙ ap (λ (b : Bool). cond b (Some (char n)) None) (not_scalar n never (is_scalar_value n) refl)

pub no_char : (k : Option ℕ) (old mid new : At) (n : ℕ) → Head k old mid Char → Moves mid new (to_be_bytes w32 n) → n < 2 ^ 32 → (IsScalar n → ⊥) → Refuses char_taken k old
no_char k old mid new n h m l never = meaningless_refuses char_taken k old mid new Char 4 _ (to_be_bytes w32 n) (λ t. refl) h refl m refl (no_character n l never)

pub short_char : (k : Option ℕ) (old mid : At) → Head k old mid Char → length mid.rest < 4 → Refuses char_taken k old
short_char k old mid h z = short_refuses char_taken k old mid Char 4 _ (λ t. refl) h refl z

pub ruleset chars = (wrong_char, char_read, no_char, short_char)

only_timestamp : TakesOnly timestamp_taken timestamp_kind
only_timestamp (scalar (timestamp x)) p = absurd (p refl)
only_timestamp (scalar s) p = refl
only_timestamp x p = refl

pub not_timestamp : (code : EncodingCodes) → code ≢ Timestamp → kind_at code ≢ timestamp_kind
not_timestamp Timestamp p = absurd (p refl)
not_timestamp code p = λ e. cc

pub wrong_timestamp : (k : Option ℕ) (old mid : At) (code : EncodingCodes) → Head k old mid code → code ≢ Timestamp → Refuses timestamp_taken k old
wrong_timestamp k old mid code h p = wrong_kind timestamp_taken timestamp_kind k old mid code only_timestamp (λ e. cc) h (not_timestamp code p)

pub timestamp_read : (k : Option ℕ) (old mid new : At) (n : ℕ) → Head k old mid Timestamp → Moves mid new (to_be_bytes w64 n) → n < 2 ^ 64 → Reads k old new (scalar (timestamp (cast_signed w64 n)))
timestamp_read k old mid new n h m l = fixed_read k old mid new Timestamp (to_be_bytes w64 n) 8 _ (timestamp (cast_signed w64 n)) h refl m refl (ap (λ (i : ℕ). Some (timestamp (cast_signed w64 i))) (from_be_bytes-to_be_bytes_8 n l))

pub short_timestamp : (k : Option ℕ) (old mid : At) → Head k old mid Timestamp → length mid.rest < 8 → Refuses timestamp_taken k old
short_timestamp k old mid h z = short_refuses timestamp_taken k old mid Timestamp 8 _ (λ t. refl) h refl z

pub ruleset timestamps = (wrong_timestamp, timestamp_read, short_timestamp)

only_uuid : TakesOnly uuid_taken uuid_kind
only_uuid (scalar (uuid x)) p = absurd (p refl)
only_uuid (scalar s) p = refl
only_uuid x p = refl

pub not_uuid : (code : EncodingCodes) → code ≢ Uuid → kind_at code ≢ uuid_kind
not_uuid Uuid p = absurd (p refl)
not_uuid code p = λ e. cc

pub wrong_uuid : (k : Option ℕ) (old mid : At) (code : EncodingCodes) → Head k old mid code → code ≢ Uuid → Refuses uuid_taken k old
wrong_uuid k old mid code h p = wrong_kind uuid_taken uuid_kind k old mid code only_uuid (λ e. cc) h (not_uuid code p)

pub uuid_read : (k : Option ℕ) (old mid new : At) (bs : List ℕ) → Head k old mid Uuid → Moves mid new bs → length bs ≡ 16 → Reads k old new (scalar (uuid bs))
uuid_read k old mid new bs h m l = fixed_read k old mid new Uuid bs 16 _ (uuid bs) h refl m l refl

pub short_uuid : (k : Option ℕ) (old mid : At) → Head k old mid Uuid → length mid.rest < 16 → Refuses uuid_taken k old
short_uuid k old mid h z = short_refuses uuid_taken k old mid Uuid 16 _ (λ t. refl) h refl z

pub ruleset uuids = (wrong_uuid, uuid_read, short_uuid)
