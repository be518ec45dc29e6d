-- The items that AMQP's types encode: part 1, section 1.1, with the primitive types of section 1.6.
use Rattle.std.specs.Prelude.{ℕ, ◌+◌, Bool, List, [], ◌∷◌, ℤ}

-- what holds no other item
pub data Scalar : Type 0 where
  null : Scalar
  boolean : Bool → Scalar
  ubyte : ℕ → Scalar
  ushort : ℕ → Scalar
  uint : ℕ → Scalar
  ulong : ℕ → Scalar
  byte : ℤ → Scalar
  short : ℤ → Scalar
  int : ℤ → Scalar
  long : ℤ → Scalar
  -- the bits of the IEEE 754 binary32 and binary64 numbers
  float : ℕ → Scalar
  double : ℕ → Scalar
  -- the bytes of the IEEE 754 decimal numbers
  decimal32 : List ℕ → Scalar
  decimal64 : List ℕ → Scalar
  decimal128 : List ℕ → Scalar
  -- a Unicode scalar value
  char : ℕ → Scalar
  -- milliseconds since the Unix epoch
  timestamp : ℤ → Scalar
  uuid : List ℕ → Scalar
  binary : List ℕ → Scalar
  -- the bytes of a text
  string : List ℕ → Scalar
  symbol : List ℕ → Scalar

mutual
  pub data Item : Type 0 where
    scalar : Scalar → Item
    -- the bytes of an item, kept as they were read
    raw : List ℕ → Item
    list : Items → Item
    map : Pairs → Item
    array : Items → Item
    -- a descriptor and a value
    described : Item → Item → Item

  -- items in a row
  pub data Items : Type 0 where
    no_items : Items
    more_items : Item → Items → Items

  -- keys with their values in a row
  pub data Pairs : Type 0 where
    no_pairs : Pairs
    more_pairs : Item → Item → Pairs → Pairs

abbrev pub items_of : List Item → Items
items_of [] = no_items
items_of (x ∷ xs) = more_items x (items_of xs)

abbrev pub item_count : Items → ℕ
item_count no_items = 0
item_count (more_items x xs) = item_count xs + 1

abbrev pub pairs_of : List (Item × Item) → Pairs
pairs_of [] = no_pairs
pairs_of (p ∷ ps) = more_pairs p.0 p.1 (pairs_of ps)

abbrev pub pair_count : Pairs → ℕ
pair_count no_pairs = 0
pair_count (more_pairs x y ps) = pair_count ps + 1

-- the keys and the values of a map in turn
abbrev pub keys_and_values : Pairs → Items
keys_and_values no_pairs = no_items
keys_and_values (more_pairs x y ps) = more_items x (more_items y (keys_and_values ps))
