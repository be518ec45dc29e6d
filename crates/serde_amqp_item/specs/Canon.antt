-- The canonical text of an item: of its wire forms the shortest constructor, and in an array the widest.
use Rattle.std.specs.Prelude.{ℕ, ◌+◌, ◌*◌, ◌^◌, ◌==◌, nat_lt, Bool, true, false, List, [], ◌∷◌, ◌++◌, length, Option}
use Rattle.std.specs.Prelude.{Some, None, if◌then◌else◌, ℤ, pos, negsuc}
use Rattle.std.specs.Int.{w8, w16, w32, w64, to_be_bytes, cast_unsigned}
use Rattle.std.specs.Str.{is_utf8}
use Rattle.serde_amqp_item.specs.Item.{Scalar, null, boolean, ubyte, ushort, uint, ulong, byte, short, int, long, float}
use Rattle.serde_amqp_item.specs.Item.{double, decimal32, decimal64, decimal128, char, timestamp, uuid, binary, string}
use Rattle.serde_amqp_item.specs.Item.{symbol, Item, scalar, raw, list, map, array, described, Items, no_items}
use Rattle.serde_amqp_item.specs.Item.{more_items, item_count, Pairs, no_pairs, more_pairs, pair_count}
use Rattle.serde_amqp_item.specs.Wire.{is_scalar_value, NoRaw}

infixl 10 ◌>>=◌
abbrev pub ◌>>=◌ : {A B : Type 0} → Option A → (A → Option B) → Option B
None >>= f = None
(Some x) >>= f = f x

-- from -2^h to 2^h - 1
abbrev pub is_signed : ℕ → ℤ → Bool
is_signed h (pos n) = nat_lt n (2 ^ h)
is_signed h (negsuc n) = nat_lt n (2 ^ h)

-- the narrow constructor up to 254 bytes, the wide one up to 2^32 - 1
abbrev pub sized_text : ℕ → ℕ → List ℕ → Option (List ℕ)
sized_text narrow wide content =
    if nat_lt (length content) 255 then Some (narrow ∷ length content ∷ content) else
    if nat_lt (length content) (2 ^ 32) then Some (wide ∷ (to_be_bytes w32 (length content) ++ content)) else None

-- sections 1.6.1 to 1.6.21
abbrev pub scalar_text : Scalar → Option (List ℕ)
scalar_text null = Some (0x40 ∷ [])
scalar_text (boolean true) = Some (0x41 ∷ [])
scalar_text (boolean false) = Some (0x42 ∷ [])
scalar_text (ubyte n) = if nat_lt n (2 ^ 8) then Some (0x50 ∷ n ∷ []) else None
scalar_text (ushort n) = if nat_lt n (2 ^ 16) then Some (0x60 ∷ to_be_bytes w16 n) else None
scalar_text (uint n) =
    if n == 0 then Some (0x43 ∷ []) else
    if nat_lt n (2 ^ 8) then Some (0x52 ∷ n ∷ []) else
    if nat_lt n (2 ^ 32) then Some (0x70 ∷ to_be_bytes w32 n) else None
scalar_text (ulong n) =
    if n == 0 then Some (0x44 ∷ []) else
    if nat_lt n (2 ^ 8) then Some (0x53 ∷ n ∷ []) else
    if nat_lt n (2 ^ 64) then Some (0x80 ∷ to_be_bytes w64 n) else None
scalar_text (byte z) = if is_signed 7 z then Some (0x51 ∷ cast_unsigned w8 z ∷ []) else None
scalar_text (short z) = if is_signed 15 z then Some (0x61 ∷ to_be_bytes w16 (cast_unsigned w16 z)) else None
scalar_text (int z) =
    if is_signed 7 z then Some (0x54 ∷ cast_unsigned w8 z ∷ []) else
    if is_signed 31 z then Some (0x71 ∷ to_be_bytes w32 (cast_unsigned w32 z)) else None
scalar_text (long z) =
    if is_signed 7 z then Some (0x55 ∷ cast_unsigned w8 z ∷ []) else
    if is_signed 63 z then Some (0x81 ∷ to_be_bytes w64 (cast_unsigned w64 z)) else None
scalar_text (float n) = if nat_lt n (2 ^ 32) then Some (0x72 ∷ to_be_bytes w32 n) else None
scalar_text (double n) = if nat_lt n (2 ^ 64) then Some (0x82 ∷ to_be_bytes w64 n) else None
scalar_text (decimal32 bs) = if length bs == 4 then Some (0x74 ∷ bs) else None
scalar_text (decimal64 bs) = if length bs == 8 then Some (0x84 ∷ bs) else None
scalar_text (decimal128 bs) = if length bs == 16 then Some (0x94 ∷ bs) else None
scalar_text (char c) = if is_scalar_value c then Some (0x73 ∷ to_be_bytes w32 c) else None
scalar_text (timestamp z) = if is_signed 63 z then Some (0x83 ∷ to_be_bytes w64 (cast_unsigned w64 z)) else None
scalar_text (uuid bs) = if length bs == 16 then Some (0x98 ∷ bs) else None
scalar_text (binary bs) = sized_text 0xa0 0xb0 bs
scalar_text (string bs) = if is_utf8 bs then sized_text 0xa1 0xb1 bs else None
scalar_text (symbol bs) = if is_utf8 bs then sized_text 0xa3 0xb3 bs else None

-- the constructor of the wide form, and what stands behind it
abbrev pub wide_sized : ℕ → List ℕ → Option (ℕ × List ℕ)
wide_sized c content =
    if nat_lt (length content) (2 ^ 32) then Some (c, to_be_bytes w32 (length content) ++ content) else None

abbrev pub scalar_wide : Scalar → Option (ℕ × List ℕ)
scalar_wide null = None
scalar_wide (boolean true) = Some (0x56, 1 ∷ [])
scalar_wide (boolean false) = Some (0x56, 0 ∷ [])
scalar_wide (ubyte n) = if nat_lt n (2 ^ 8) then Some (0x50, n ∷ []) else None
scalar_wide (ushort n) = if nat_lt n (2 ^ 16) then Some (0x60, to_be_bytes w16 n) else None
scalar_wide (uint n) = if nat_lt n (2 ^ 32) then Some (0x70, to_be_bytes w32 n) else None
scalar_wide (ulong n) = if nat_lt n (2 ^ 64) then Some (0x80, to_be_bytes w64 n) else None
scalar_wide (byte z) = if is_signed 7 z then Some (0x51, cast_unsigned w8 z ∷ []) else None
scalar_wide (short z) = if is_signed 15 z then Some (0x61, to_be_bytes w16 (cast_unsigned w16 z)) else None
scalar_wide (int z) = if is_signed 31 z then Some (0x71, to_be_bytes w32 (cast_unsigned w32 z)) else None
scalar_wide (long z) = if is_signed 63 z then Some (0x81, to_be_bytes w64 (cast_unsigned w64 z)) else None
scalar_wide (float n) = if nat_lt n (2 ^ 32) then Some (0x72, to_be_bytes w32 n) else None
scalar_wide (double n) = if nat_lt n (2 ^ 64) then Some (0x82, to_be_bytes w64 n) else None
scalar_wide (decimal32 bs) = if length bs == 4 then Some (0x74, bs) else None
scalar_wide (decimal64 bs) = if length bs == 8 then Some (0x84, bs) else None
scalar_wide (decimal128 bs) = if length bs == 16 then Some (0x94, bs) else None
scalar_wide (char c) = if is_scalar_value c then Some (0x73, to_be_bytes w32 c) else None
scalar_wide (timestamp z) = if is_signed 63 z then Some (0x83, to_be_bytes w64 (cast_unsigned w64 z)) else None
scalar_wide (uuid bs) = if length bs == 16 then Some (0x98, bs) else None
scalar_wide (binary bs) = wide_sized 0xb0 bs
scalar_wide (string bs) = if is_utf8 bs then wide_sized 0xb1 bs else None
scalar_wide (symbol bs) = if is_utf8 bs then wide_sized 0xb3 bs else None

-- a size, a count and this content: the narrow constructor up to 254 bytes of content, the wide one up to a size of
-- 2^32 - 1
abbrev pub counted_text : ℕ → ℕ → ℕ → List ℕ → Option (List ℕ)
counted_text narrow wide count content =
    if nat_lt (length content) 255 then Some (narrow ∷ (length content + 1) ∷ count ∷ content) else
    if nat_lt (length content + 4) (2 ^ 32) then Some
    (wide ∷ (to_be_bytes w32 (length content + 4) ++ to_be_bytes w32 count ++ content)) else None

abbrev pub counted_wide : ℕ → ℕ → List ℕ → Option (ℕ × List ℕ)
counted_wide c count content =
    if nat_lt (length content + 4) (2 ^ 32) then Some
    (c, to_be_bytes w32 (length content + 4) ++ to_be_bytes w32 count ++ content) else None

-- a list of so many items with this content (section 1.6.22)
abbrev pub list_text : ℕ → List ℕ → Option (List ℕ)
list_text count content = if length content == 0 then Some (0x45 ∷ []) else counted_text 0xc0 0xd0 count content

abbrev pub list_wide : ℕ → List ℕ → Option (ℕ × List ℕ)
list_wide count content = counted_wide 0xd0 count content

-- a map of so many keys and values with this content (section 1.6.23)
abbrev pub map_text : ℕ → List ℕ → Option (List ℕ)
map_text count content = counted_text 0xc1 0xd1 count content

abbrev pub map_wide : ℕ → List ℕ → Option (ℕ × List ℕ)
map_wide count content = counted_wide 0xd1 count content

-- an array of so many elements with this content, the elements' constructor at its front (section 1.6.24)
abbrev pub array_text : ℕ → List ℕ → Option (List ℕ)
array_text count content = counted_text 0xe0 0xf0 count content

abbrev pub array_wide : ℕ → List ℕ → Option (ℕ × List ℕ)
array_wide count content = counted_wide 0xf0 count content

-- what the other elements are written as, where the first has this constructor
abbrev pub same_constructor : ℕ → ℕ × List ℕ → Option (List ℕ)
same_constructor c e = if e.0 == c then Some e.1 else None

-- every count in the item is within; a map counts its keys and its values
abbrev mutual
  pub AllWithin : (ℕ → Type 0) → Item → Type 0
  AllWithin within (scalar s) = Unit {0}
  AllWithin within (raw text) = Unit {0}
  AllWithin within (list xs) = within (item_count xs) × EachWithin within xs
  AllWithin within (map ps) = within (2 * pair_count ps) × EachPairWithin within ps
  AllWithin within (array xs) = within (item_count xs) × EachWithin within xs
  AllWithin within (described d v) = AllWithin within d × AllWithin within v

  pub EachWithin : (ℕ → Type 0) → Items → Type 0
  EachWithin within no_items = Unit {0}
  EachWithin within (more_items x xs) = AllWithin within x × EachWithin within xs

  pub EachPairWithin : (ℕ → Type 0) → Pairs → Type 0
  EachPairWithin within no_pairs = Unit {0}
  EachPairWithin within (more_pairs x y ps) = AllWithin within x × AllWithin within y × EachPairWithin within ps

-- every raw item is a constructor with kept bytes behind it
abbrev mutual
  pub RawKept : (ℕ → List ℕ → Type 0) → Item → Type 0
  RawKept kept (raw []) = ⊥
  RawKept kept (raw (c ∷ bytes)) = kept c bytes
  RawKept kept (scalar s) = Unit {0}
  RawKept kept (list xs) = EachRawKept kept xs
  RawKept kept (map ps) = EachPairRawKept kept ps
  RawKept kept (array xs) = EachRawKept kept xs
  RawKept kept (described d v) = RawKept kept d × RawKept kept v

  pub EachRawKept : (ℕ → List ℕ → Type 0) → Items → Type 0
  EachRawKept kept no_items = Unit {0}
  EachRawKept kept (more_items x xs) = RawKept kept x × EachRawKept kept xs

  pub EachPairRawKept : (ℕ → List ℕ → Type 0) → Pairs → Type 0
  EachPairRawKept kept no_pairs = Unit {0}
  EachPairRawKept kept (more_pairs x y ps) = RawKept kept x × RawKept kept y × EachPairRawKept kept ps

-- there is no raw item in the item
abbrev pub WithoutRaw : Item → Type 0
WithoutRaw x = RawKept NoRaw x

-- no item is written as nothing
abbrev pub raw_text : List ℕ → Option (List ℕ)
raw_text [] = None
raw_text (c ∷ bytes) = Some (c ∷ bytes)

abbrev mutual
  pub canon : Item → Option (List ℕ)
  canon (scalar s) = scalar_text s
  canon (raw text) = raw_text text
  canon (list xs) = canon_all xs >>= list_text (item_count xs)
  canon (map ps) = canon_pairs ps >>= map_text (2 * pair_count ps)
  canon (array xs) = elements xs >>= array_text (item_count xs)
  canon (described d v) = canon d >>= λ a. canon v >>= λ b. Some (0x00 ∷ a ++ b)

  -- the texts one after the other
  pub canon_all : Items → Option (List ℕ)
  canon_all no_items = Some []
  canon_all (more_items x xs) = canon x >>= λ a. canon_all xs >>= λ b. Some (a ++ b)

  -- the texts of the keys and values in turn
  pub canon_pairs : Pairs → Option (List ℕ)
  canon_pairs no_pairs = Some []
  canon_pairs (more_pairs x y ps) = canon x >>= λ a. canon y >>= λ b. canon_pairs ps >>= λ r. Some (a ++ (b ++ r))

  -- the wide form; null, described and raw items have none, so they are no elements of an array
  pub wide : Item → Option (ℕ × List ℕ)
  wide (scalar s) = scalar_wide s
  wide (raw text) = None
  wide (list xs) = canon_all xs >>= list_wide (item_count xs)
  wide (map ps) = canon_pairs ps >>= map_wide (2 * pair_count ps)
  wide (array xs) = elements xs >>= array_wide (item_count xs)
  wide (described d v) = None

  -- the content of an array: the constructor of its first element, and the elements; an empty array has the constructor
  -- of null
  pub elements : Items → Option (List ℕ)
  elements no_items = Some (0x40 ∷ [])
  elements (more_items x xs) = wide x >>= λ e. elements_of e.0 xs >>= λ b. Some (e.0 ∷ e.1 ++ b)

  pub elements_of : ℕ → Items → Option (List ℕ)
  elements_of c no_items = Some []
  elements_of c (more_items x xs) = (wide x >>= same_constructor c) >>= λ a. elements_of c xs >>= λ b. Some (a ++ b)

-- where a value is written: alone, as the first element of an array, or behind an element with this constructor
pub data Place : Type 0 where
  alone : Place
  first : Place
  next : ℕ → Place

-- what a wide form adds at a place, and the place behind it
abbrev pub settled : Place → ℕ × List ℕ → Option (Place × List ℕ)
settled alone p = Some (alone, p.0 ∷ p.1)
settled first p = Some (next p.0, p.0 ∷ p.1)
settled (next c) p = same_constructor c p >>= λ a. Some (next c, a)

-- what an item adds at a place, and the place behind it
abbrev pub placed : Place → Item → Option (Place × List ℕ)
placed alone x = canon x >>= λ a. Some (alone, a)
placed first x = wide x >>= settled first
placed (next c) x = wide x >>= settled (next c)

-- what a list of so many items with this content adds at a place
abbrev pub list_placed : Place → ℕ → List ℕ → Option (Place × List ℕ)
list_placed alone count content = list_text count content >>= λ a. Some (alone, a)
list_placed first count content = list_wide count content >>= settled first
list_placed (next c) count content = list_wide count content >>= settled (next c)

-- what the wide form of such a list adds
abbrev pub list_settled : Place → ℕ → List ℕ → Option (Place × List ℕ)
list_settled p count content = list_wide count content >>= settled p

-- likewise a map of so many keys and values
abbrev pub map_placed : Place → ℕ → List ℕ → Option (Place × List ℕ)
map_placed alone count content = map_text count content >>= λ a. Some (alone, a)
map_placed first count content = map_wide count content >>= settled first
map_placed (next c) count content = map_wide count content >>= settled (next c)

-- likewise an array of so many elements; their constructor stands at the front of the content
abbrev pub array_placed : Place → ℕ → List ℕ → Option (Place × List ℕ)
array_placed alone count content = array_text count content >>= λ a. Some (alone, a)
array_placed first count content = array_wide count content >>= settled first
array_placed (next c) count content = array_wide count content >>= settled (next c)

-- likewise, behind what was added before
abbrev pub added_behind : List ℕ → Option (Place × List ℕ) → Option (Place × List ℕ)
added_behind a None = None
added_behind a (Some r) = Some (r.0, a ++ r.1)

-- what items add one behind the other, and the place behind them
abbrev pub added : Place → Items → Option (Place × List ℕ)
added p no_items = Some (p, [])
added p (more_items x xs) = placed p x >>= λ q. added_behind q.1 (added q.0 xs)
