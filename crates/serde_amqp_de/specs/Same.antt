-- Whether two items are the same.
use Rattle.std.specs.Prelude.{◌==◌, ◌&&◌, Bool, true, false, nat_eq}
use Rattle.std.specs.Ordering.{int_eq}
use Rattle.std.specs.Cmp.Lexicographic.{pointwise}
use Rattle.serde_amqp_item.specs.Item.{Scalar, null, boolean, ubyte, ushort, uint, ulong, byte, short, int, long, float}
use Rattle.serde_amqp_item.specs.Item.{double, decimal32, decimal64, decimal128, char, timestamp, uuid, binary, string}
use Rattle.serde_amqp_item.specs.Item.{symbol, Item, scalar, raw, list, map, array, described, Items, no_items}
use Rattle.serde_amqp_item.specs.Item.{more_items, Pairs, no_pairs, more_pairs}

abbrev pub same_truth : Bool → Bool → Bool
same_truth true b = b
same_truth false true = false
same_truth false false = true

abbrev pub scalar_same : Scalar → Scalar → Bool
scalar_same null null = true
scalar_same (boolean a) (boolean b) = same_truth a b
scalar_same (ubyte m) (ubyte n) = m == n
scalar_same (ushort m) (ushort n) = m == n
scalar_same (uint m) (uint n) = m == n
scalar_same (ulong m) (ulong n) = m == n
scalar_same (byte m) (byte n) = int_eq m n
scalar_same (short m) (short n) = int_eq m n
scalar_same (int m) (int n) = int_eq m n
scalar_same (long m) (long n) = int_eq m n
scalar_same (float m) (float n) = m == n
scalar_same (double m) (double n) = m == n
scalar_same (decimal32 a) (decimal32 b) = pointwise nat_eq a b
scalar_same (decimal64 a) (decimal64 b) = pointwise nat_eq a b
scalar_same (decimal128 a) (decimal128 b) = pointwise nat_eq a b
scalar_same (char m) (char n) = m == n
scalar_same (timestamp m) (timestamp n) = int_eq m n
scalar_same (uuid a) (uuid b) = pointwise nat_eq a b
scalar_same (binary a) (binary b) = pointwise nat_eq a b
scalar_same (string a) (string b) = pointwise nat_eq a b
scalar_same (symbol a) (symbol b) = pointwise nat_eq a b
scalar_same _ _ = false

abbrev mutual
  pub item_same : Item → Item → Bool
  item_same (scalar s) (scalar t) = scalar_same s t
  item_same (raw a) (raw b) = pointwise nat_eq a b
  item_same (list xs) (list ys) = items_same xs ys
  item_same (map ps) (map qs) = pairs_same ps qs
  item_same (array xs) (array ys) = items_same xs ys
  item_same (described d x) (described e y) = item_same d e && item_same x y
  item_same _ _ = false

  pub items_same : Items → Items → Bool
  items_same no_items no_items = true
  items_same (more_items x xs) (more_items y ys) = item_same x y && items_same xs ys
  items_same _ _ = false

  pub pairs_same : Pairs → Pairs → Bool
  pairs_same no_pairs no_pairs = true
  pairs_same (more_pairs k v ps) (more_pairs l w qs) = (item_same k l && item_same v w) && pairs_same ps qs
  pairs_same _ _ = false
