-- Maps in the order of their keys: which items they take.
use Rattle.std.specs.Prelude.{List, [], ◌∷◌, Option, Some}
use Rattle.std.specs.Cmp.Lexicographic.{slice_cmp}
use Rattle.std.specs.Ordering.{nat_cmp, int_cmp, bool_cmp}
use Rattle.std.specs.declared.cmp.Ordering.{Ordering}
use Rattle.std.specs.declared.cmp.Ordering.TheVariants.{Equal}
use Rattle.serde_amqp_item.specs.Item.{Scalar, boolean, ubyte, ushort, uint, ulong, byte, short, int, long, char}
use Rattle.serde_amqp_item.specs.Item.{timestamp, uuid, binary, string, symbol, Item, scalar, map, Pairs, no_pairs}
use Rattle.serde_amqp_item.specs.Item.{more_pairs, pairs_of}
use Rattle.serde_amqp_item.specs.Canon.{◌>>=◌}
use Rattle.serde_amqp_item.specs.Entries.{all_placed}
use Rattle.serde_amqp_de.specs.Maps.{pairs_taken}

-- numbers by their value, characters by their code point, and bytes by the first that differ and else by their
-- number; between other items there is no order
abbrev pub scalar_order : Scalar → Scalar → Ordering
scalar_order (boolean a) (boolean b) = bool_cmp a b
scalar_order (ubyte m) (ubyte n) = nat_cmp m n
scalar_order (ushort m) (ushort n) = nat_cmp m n
scalar_order (uint m) (uint n) = nat_cmp m n
scalar_order (ulong m) (ulong n) = nat_cmp m n
scalar_order (byte m) (byte n) = int_cmp m n
scalar_order (short m) (short n) = int_cmp m n
scalar_order (int m) (int n) = int_cmp m n
scalar_order (long m) (long n) = int_cmp m n
scalar_order (char m) (char n) = nat_cmp m n
scalar_order (timestamp m) (timestamp n) = int_cmp m n
scalar_order (uuid a) (uuid b) = slice_cmp nat_cmp a b
scalar_order (binary a) (binary b) = slice_cmp nat_cmp a b
scalar_order (string a) (string b) = slice_cmp nat_cmp a b
scalar_order (symbol a) (symbol b) = slice_cmp nat_cmp a b
scalar_order _ _ = Equal

abbrev pub item_order : Item → Item → Ordering
item_order (scalar s) (scalar t) = scalar_order s t
item_order _ _ = Equal

-- the pairs in a row
abbrev pub pairs_in_row : Pairs → List (Item × Item)
pairs_in_row no_pairs = []
pairs_in_row (more_pairs x y ps) = (x, y) ∷ pairs_in_row ps

-- a map's pairs in the order of the keys, each key once with its last value
abbrev pub by_key : Item → Item
by_key (map ps) = map (pairs_of (all_placed item_order [] (pairs_in_row ps)))
by_key x = x

-- a map of keys and values that are taken, in the order of the keys, each key once with its last value
unfoldable pub sorted_taken : (Item → Option Item) → (Item → Option Item) → Item → Option Item
sorted_taken key value x = pairs_taken key value x >>= λ y. Some (by_key y)
