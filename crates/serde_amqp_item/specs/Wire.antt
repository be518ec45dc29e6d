-- The wire forms of items: the constructors of part 1, section 1.6, and the layouts of section 1.2.
use Rattle.std.specs.Prelude.{◌≡◌, ◌≢◌, ℕ, ◌*◌, ◌<◌, ◌≤◌, ◌^◌, ◌==◌, ◌⊎◌, true, false, List, [], ◌∷◌, ◌++◌, length}
use Rattle.std.specs.Prelude.{slice_index, Option, Some, None, IsSome, if◌then◌else◌}
use Rattle.std.specs.Int.{w8, w16, w32, w64, to_be_bytes, from_be_bytes, cast_signed}
use Rattle.std.specs.Str.{is_utf8}
pub use lib.Utf8.{scalar as is_scalar_value}
use Rattle.serde_amqp_item.specs.declared.codes.EncodingCodes.{EncodingCodes}
use Rattle.serde_amqp_item.specs.declared.codes.EncodingCodes.TheVariants.{DescribedType, Null, BooleanTrue}
use Rattle.serde_amqp_item.specs.declared.codes.EncodingCodes.TheVariants.{BooleanFalse, Boolean, UByte, UShort, UInt}
use Rattle.serde_amqp_item.specs.declared.codes.EncodingCodes.TheVariants.{SmallUInt, UInt0, ULong, SmallULong, ULong0}
use Rattle.serde_amqp_item.specs.declared.codes.EncodingCodes.TheVariants.{Byte, Short, Int, SmallInt, Long, SmallLong}
use Rattle.serde_amqp_item.specs.declared.codes.EncodingCodes.TheVariants.{Float, Double, Decimal32, Decimal64}
use Rattle.serde_amqp_item.specs.declared.codes.EncodingCodes.TheVariants.{Decimal128, Char, Timestamp, Uuid, Vbin8}
use Rattle.serde_amqp_item.specs.declared.codes.EncodingCodes.TheVariants.{Vbin32, Str8, Str32, Sym8, Sym32, List0}
use Rattle.serde_amqp_item.specs.declared.codes.EncodingCodes.TheVariants.{List8, List32, Map8, Map32, Array8, Array32}
use Rattle.serde_amqp_item.specs.declared.codes.Category.{Category}
use Rattle.serde_amqp_item.specs.declared.codes.Category.TheVariants.{Fixed, Variable, Compound, Array}
use Rattle.serde_amqp_item.specs.Item.{Scalar, null, boolean, ubyte, ushort, uint, ulong, byte, short, int, long, float}
use Rattle.serde_amqp_item.specs.Item.{double, decimal32, decimal64, decimal128, char, timestamp, uuid, binary, string}
use Rattle.serde_amqp_item.specs.Item.{symbol, Item, scalar, raw, list, map, array, described, Items, no_items}
use Rattle.serde_amqp_item.specs.Item.{more_items, item_count, Pairs, no_pairs, more_pairs, pair_count}

-- the two widths of size and count fields (section 1.2)
pub data Width : Type 0 where
  one_byte : Width
  four_bytes : Width

-- what is above all numbers of a field
abbrev pub room : Width → ℕ
room one_byte = 2 ^ 8
room four_bytes = 2 ^ 32

abbrev pub field : Width → ℕ → List ℕ
field one_byte n = n ∷ []
field four_bytes n = to_be_bytes w32 n

-- what stands behind a constructor
pub data Row : Type 0 where
  -- so many bytes, which mean a scalar
  fixed : ℕ → (List ℕ → Option Scalar) → Row
  -- a size, and so many bytes
  variable : Width → (List ℕ → Option Scalar) → Row
  -- nothing
  empty_list : Row
  -- a size, a count, and the items, each with its constructor
  list_of : Width → Row
  -- a size, a count of keys and values, and the keys and values in turn, each with its constructor
  map_of : Width → Row
  -- a size, a count, a constructor, and the items without it
  array_of : Width → Row
  -- a descriptor and a value
  described_by : Row
  no_row : Row

-- section 1.6.2
abbrev pub boolean_at : List ℕ → Option Scalar
boolean_at (b ∷ []) = if b == 0 then Some (boolean false) else if b == 1 then Some (boolean true) else None
boolean_at _ = None

-- section 1.6.16: a Unicode scalar value, below 0xD800 or from 0xE000 to 0x10FFFF
abbrev pub char_of : ℕ → Option Scalar
char_of c = if is_scalar_value c then Some (char c) else None

-- sections 1.6.20 and 1.6.21: a symbol is read as a text too
abbrev pub string_at : List ℕ → Option Scalar
string_at bs = if is_utf8 bs then Some (string bs) else None

abbrev pub symbol_at : List ℕ → Option Scalar
symbol_at bs = if is_utf8 bs then Some (symbol bs) else None

-- the constructor that a byte stands for (section 1.6)
unfoldable pub code_of : ℕ → Option EncodingCodes
code_of c =
    if c == 0x00 then Some DescribedType else
    if c == 0x40 then Some Null else
    if c == 0x41 then Some BooleanTrue else
    if c == 0x42 then Some BooleanFalse else
    if c == 0x56 then Some Boolean else
    if c == 0x50 then Some UByte else
    if c == 0x60 then Some UShort else
    if c == 0x70 then Some UInt else
    if c == 0x52 then Some SmallUInt else
    if c == 0x43 then Some UInt0 else
    if c == 0x80 then Some ULong else
    if c == 0x53 then Some SmallULong else
    if c == 0x44 then Some ULong0 else
    if c == 0x51 then Some Byte else
    if c == 0x61 then Some Short else
    if c == 0x71 then Some Int else
    if c == 0x54 then Some SmallInt else
    if c == 0x81 then Some Long else
    if c == 0x55 then Some SmallLong else
    if c == 0x72 then Some Float else
    if c == 0x82 then Some Double else
    if c == 0x74 then Some Decimal32 else
    if c == 0x84 then Some Decimal64 else
    if c == 0x94 then Some Decimal128 else
    if c == 0x73 then Some Char else
    if c == 0x83 then Some Timestamp else
    if c == 0x98 then Some Uuid else
    if c == 0xa0 then Some Vbin8 else
    if c == 0xb0 then Some Vbin32 else
    if c == 0xa1 then Some Str8 else
    if c == 0xb1 then Some Str32 else
    if c == 0xa3 then Some Sym8 else
    if c == 0xb3 then Some Sym32 else
    if c == 0x45 then Some List0 else
    if c == 0xc0 then Some List8 else
    if c == 0xd0 then Some List32 else
    if c == 0xc1 then Some Map8 else
    if c == 0xd1 then Some Map32 else
    if c == 0xe0 then Some Array8 else
    if c == 0xf0 then Some Array32 else
    None

-- the byte of a constructor
abbrev pub byte_of : EncodingCodes → ℕ
byte_of DescribedType = 0x00
byte_of Null = 0x40
byte_of BooleanTrue = 0x41
byte_of BooleanFalse = 0x42
byte_of Boolean = 0x56
byte_of UByte = 0x50
byte_of UShort = 0x60
byte_of UInt = 0x70
byte_of SmallUInt = 0x52
byte_of UInt0 = 0x43
byte_of ULong = 0x80
byte_of SmallULong = 0x53
byte_of ULong0 = 0x44
byte_of Byte = 0x51
byte_of Short = 0x61
byte_of Int = 0x71
byte_of SmallInt = 0x54
byte_of Long = 0x81
byte_of SmallLong = 0x55
byte_of Float = 0x72
byte_of Double = 0x82
byte_of Decimal32 = 0x74
byte_of Decimal64 = 0x84
byte_of Decimal128 = 0x94
byte_of Char = 0x73
byte_of Timestamp = 0x83
byte_of Uuid = 0x98
byte_of Vbin8 = 0xa0
byte_of Vbin32 = 0xb0
byte_of Str8 = 0xa1
byte_of Str32 = 0xb1
byte_of Sym8 = 0xa3
byte_of Sym32 = 0xb3
byte_of List0 = 0x45
byte_of List8 = 0xc0
byte_of List32 = 0xd0
byte_of Map8 = 0xc1
byte_of Map32 = 0xd1
byte_of Array8 = 0xe0
byte_of Array32 = 0xf0

-- sections 1.6.1 to 1.6.24; numbers have their highest byte first, signed ones in two's complement
abbrev pub row_at : Option EncodingCodes → Row
row_at (Some DescribedType) = described_by
row_at (Some Null) = fixed 0 (λ _. Some null)
row_at (Some BooleanTrue) = fixed 0 (λ _. Some (boolean true))
row_at (Some BooleanFalse) = fixed 0 (λ _. Some (boolean false))
row_at (Some Boolean) = fixed 1 boolean_at
row_at (Some UByte) = fixed 1 (λ bs. Some (ubyte (slice_index bs 0)))
row_at (Some UShort) = fixed 2 (λ bs. Some (ushort (from_be_bytes w16 bs)))
row_at (Some UInt) = fixed 4 (λ bs. Some (uint (from_be_bytes w32 bs)))
row_at (Some SmallUInt) = fixed 1 (λ bs. Some (uint (slice_index bs 0)))
row_at (Some UInt0) = fixed 0 (λ _. Some (uint 0))
row_at (Some ULong) = fixed 8 (λ bs. Some (ulong (from_be_bytes w64 bs)))
row_at (Some SmallULong) = fixed 1 (λ bs. Some (ulong (slice_index bs 0)))
row_at (Some ULong0) = fixed 0 (λ _. Some (ulong 0))
row_at (Some Byte) = fixed 1 (λ bs. Some (byte (cast_signed w8 (slice_index bs 0))))
row_at (Some Short) = fixed 2 (λ bs. Some (short (cast_signed w16 (from_be_bytes w16 bs))))
row_at (Some Int) = fixed 4 (λ bs. Some (int (cast_signed w32 (from_be_bytes w32 bs))))
row_at (Some SmallInt) = fixed 1 (λ bs. Some (int (cast_signed w8 (slice_index bs 0))))
row_at (Some Long) = fixed 8 (λ bs. Some (long (cast_signed w64 (from_be_bytes w64 bs))))
row_at (Some SmallLong) = fixed 1 (λ bs. Some (long (cast_signed w8 (slice_index bs 0))))
row_at (Some Float) = fixed 4 (λ bs. Some (float (from_be_bytes w32 bs)))
row_at (Some Double) = fixed 8 (λ bs. Some (double (from_be_bytes w64 bs)))
row_at (Some Decimal32) = fixed 4 (λ bs. Some (decimal32 bs))
row_at (Some Decimal64) = fixed 8 (λ bs. Some (decimal64 bs))
row_at (Some Decimal128) = fixed 16 (λ bs. Some (decimal128 bs))
row_at (Some Char) = fixed 4 (λ bs. char_of (from_be_bytes w32 bs))
row_at (Some Timestamp) = fixed 8 (λ bs. Some (timestamp (cast_signed w64 (from_be_bytes w64 bs))))
row_at (Some Uuid) = fixed 16 (λ bs. Some (uuid bs))
row_at (Some Vbin8) = variable one_byte (λ bs. Some (binary bs))
row_at (Some Vbin32) = variable four_bytes (λ bs. Some (binary bs))
row_at (Some Str8) = variable one_byte string_at
row_at (Some Str32) = variable four_bytes string_at
row_at (Some Sym8) = variable one_byte symbol_at
row_at (Some Sym32) = variable four_bytes symbol_at
row_at (Some List0) = empty_list
row_at (Some List8) = list_of one_byte
row_at (Some List32) = list_of four_bytes
row_at (Some Map8) = map_of one_byte
row_at (Some Map32) = map_of four_bytes
row_at (Some Array8) = array_of one_byte
row_at (Some Array32) = array_of four_bytes
row_at None = no_row

unfoldable pub row_of : ℕ → Row
row_of c = row_at (code_of c)

-- the bytes of a field
abbrev pub field_width : Width → ℕ
field_width one_byte = 1
field_width four_bytes = 4

-- the categories of section 1.2, of which a described value has none
abbrev pub category_of : Row → Option Category
category_of (fixed n read) = Some (Fixed n)
category_of (variable w read) = Some (Variable (field_width w))
category_of empty_list = Some (Fixed 0)
category_of (list_of w) = Some (Compound (field_width w))
category_of (map_of w) = Some (Compound (field_width w))
category_of (array_of w) = Some (Array (field_width w))
category_of described_by = None
category_of no_row = None

-- the constructor and what stands behind it; within an array the constructor is inherited (section 1.2)
abbrev pub Leads : Option ℕ → List ℕ → ℕ → List ℕ → Type 0
Leads None bytes c rest = bytes ≡ c ∷ rest
Leads (Some k) bytes c rest = (c ≡ k) × (bytes ≡ rest)

-- the constructor c where it is an item's own, none where it is inherited
abbrev pub own : Option ℕ → ℕ → Option ℕ
own None c = Some c
own (Some k) c = None

-- a size field, and so many bytes
pub record IsSized (w : Width) (content bytes : List ℕ) : Type 0 where
  pub fits : length content < room w
  pub whole : bytes ≡ field w (length content) ++ content

-- an array's constructor: one of the table, and of elements neither null nor described
pub record IsElementCode (count c : ℕ) : Type 0 where
  pub known : IsSome (code_of c)
  pub plain : 0 < count → (c ≢ 0x40) × (c ≢ 0x00)

-- an empty array without a constructor: the size 1 and the count 0, each one byte
pub record IsBareArray (w : Width) (xs : Items) (bytes : List ℕ) : Type 0 where
  pub width : w ≡ one_byte
  pub empty : xs ≡ no_items
  pub whole : bytes ≡ 1 ∷ 0 ∷ []

-- a size of this width stands behind the constructor
abbrev pub HasSize : Width → Row → Type 0
HasSize w (variable v read) = v ≡ w
HasSize w (list_of v) = v ≡ w
HasSize w (map_of v) = v ≡ w
HasSize w (array_of v) = v ≡ w
HasSize w _ = ⊥

abbrev pub ScalarForm : Scalar → Row → List ℕ → Type 0
ScalarForm s (fixed n read) bytes = (length bytes ≡ n) × (read bytes ≡ Some s)
ScalarForm s (variable w read) bytes = (content : List ℕ) × IsSized w content bytes × (read content ≡ Some s)
ScalarForm s _ bytes = ⊥

-- The bytes stand behind a constructor of this row and are a form of the item. `within` says which counts there may be.
-- `kept` says what a raw item may be, by its constructor and what stands behind it. A raw item has a constructor of its
-- own, so it is no element of an array.
abbrev mutual
  pub Form : (ℕ → Type 0) → (ℕ → List ℕ → Type 0) → Item → Option ℕ → Row → List ℕ → Type 0
  Form within kept (raw text) (Some c) r bytes = (text ≡ c ∷ bytes) × kept c bytes
  Form within kept (raw text) None r bytes = ⊥
  Form within kept (scalar s) o r bytes = ScalarForm s r bytes
  Form within kept (list xs) o empty_list bytes = (xs ≡ no_items) × (bytes ≡ [])
  Form within kept (list xs) o (list_of w) bytes =
      (content : List ℕ) × within (item_count xs) × (item_count xs < room w)
      × IsSized w (field w (item_count xs) ++ content) bytes × Forms within kept xs None content
  Form within kept (map ps) o (map_of w) bytes =
      (content : List ℕ) × within (2 * pair_count ps) × (2 * pair_count ps < room w)
      × IsSized w (field w (2 * pair_count ps) ++ content) bytes × PairForms within kept ps content
  Form within kept (array xs) o (array_of w) bytes =
      IsBareArray w xs bytes
      ⊎ ((d : ℕ) × (content : List ℕ) × within (item_count xs) × (item_count xs < room w)
      × IsSized w (field w (item_count xs) ++ d ∷ content) bytes × IsElementCode (item_count xs) d
      × Forms within kept xs (Some d) content)
  Form within kept (described d v) o described_by bytes =
      (c : ℕ) × (a : List ℕ) × (k : ℕ) × (b : List ℕ) × (bytes ≡ c ∷ (a ++ k ∷ b))
      × Form within kept d (Some c) (row_of c) a × Form within kept v (Some k) (row_of k) b
  Form within kept _ o _ bytes = ⊥

  -- forms one behind the other, each behind its own constructor or all behind the one that they inherit
  pub Forms : (ℕ → Type 0) → (ℕ → List ℕ → Type 0) → Items → Option ℕ → List ℕ → Type 0
  Forms within kept no_items k bytes = bytes ≡ []
  Forms within kept (more_items x xs) k bytes =
      (c : ℕ) × (a : List ℕ) × (b : List ℕ) × Leads k bytes c (a ++ b) × Form within kept x (own k c) (row_of c) a
      × Forms within kept xs k b

  -- keys and values in turn
  pub PairForms : (ℕ → Type 0) → (ℕ → List ℕ → Type 0) → Pairs → List ℕ → Type 0
  PairForms within kept no_pairs bytes = bytes ≡ []
  PairForms within kept (more_pairs x y ps) bytes =
      (c : ℕ) × (a : List ℕ) × (k : ℕ) × (b : List ℕ) × (rest : List ℕ) × (bytes ≡ c ∷ (a ++ k ∷ (b ++ rest)))
      × Form within kept x (Some c) (row_of c) a × Form within kept y (Some k) (row_of k) b
      × PairForms within kept ps rest

abbrev pub AnyCount : ℕ → Type 0
AnyCount n = Unit {0}

abbrev pub NoRaw : ℕ → List ℕ → Type 0
NoRaw c bytes = ⊥

-- behind the constructor c a strict form: of an item without raw ones, and with any counts
abbrev pub IsStrict : ℕ → List ℕ → Type 0
IsStrict c bytes = (x : Item) × Form AnyCount NoRaw x (Some c) (row_of c) bytes

-- at most 65,536 elements of a list or an array, and as many keys and values of a map
abbrev pub IsCapped : ℕ → Type 0
IsCapped n = n ≤ 65536

-- the bytes are a wire form of the item; k is the constructor that it inherits, if it does
abbrev pub Wire : Item → Option ℕ → List ℕ → Type 0
Wire x k bytes = (c : ℕ) × (a : List ℕ) × Leads k bytes c a × Form IsCapped IsStrict x (own k c) (row_of c) a
