-- Items are the same exactly where they are equal.
use Rattle.std.proofs.Common.{◌≡◌, Bool, true, false, ◌&&◌, sym, ◌∙◌, ap, subst, refl, true≢false}
use Rattle.std.proofs.lemmas.Bool.Decides.{Decides-eqb, Decides-int_eq}
use Rattle.std.specs.Bool.{Decides}
use Rattle.std.specs.Cmp.Lexicographic.{bytes_decides}
use Rattle.serde_amqp_item.specs.Item.{Scalar, null, boolean, ubyte, ushort, uint, ulong, byte, short, int, long, float, double, decimal32, decimal64, decimal128, char, timestamp, uuid, binary, string, symbol, Item, scalar, raw, list, map, array, described, Items, no_items, more_items, Pairs, no_pairs, more_pairs}
use Rattle.serde_amqp_de.specs.Same.{same_truth, scalar_same, item_same, items_same, pairs_same}

both : (a b : Bool) → (a && b) ≡ true → (a ≡ true) × (b ≡ true)
both true b e = (refl, e)
both false b e = absurd (true≢false (sym e))

truth_self : (b : Bool) → same_truth b b ≡ true
truth_self true = refl
truth_self false = refl

truth_equal : (a b : Bool) → same_truth a b ≡ true → a ≡ b
truth_equal true true e = refl
truth_equal true false e = absurd (true≢false (sym e))
truth_equal false true e = absurd (true≢false (sym e))
truth_equal false false e = refl

scalar_self : (s : Scalar) → scalar_same s s ≡ true
scalar_self null = refl
scalar_self (boolean b) = truth_self b
scalar_self (ubyte n) = (Decides-eqb n n).1 refl
scalar_self (ushort n) = (Decides-eqb n n).1 refl
scalar_self (uint n) = (Decides-eqb n n).1 refl
scalar_self (ulong n) = (Decides-eqb n n).1 refl
scalar_self (float n) = (Decides-eqb n n).1 refl
scalar_self (double n) = (Decides-eqb n n).1 refl
scalar_self (char n) = (Decides-eqb n n).1 refl
scalar_self (byte n) = (Decides-int_eq n n).1 refl
scalar_self (short n) = (Decides-int_eq n n).1 refl
scalar_self (int n) = (Decides-int_eq n n).1 refl
scalar_self (long n) = (Decides-int_eq n n).1 refl
scalar_self (timestamp n) = (Decides-int_eq n n).1 refl
scalar_self (decimal32 b) = (bytes_decides b b).1 refl
scalar_self (decimal64 b) = (bytes_decides b b).1 refl
scalar_self (decimal128 b) = (bytes_decides b b).1 refl
scalar_self (uuid b) = (bytes_decides b b).1 refl
scalar_self (binary b) = (bytes_decides b b).1 refl
scalar_self (string b) = (bytes_decides b b).1 refl
scalar_self (symbol b) = (bytes_decides b b).1 refl

scalar_equal : (s t : Scalar) → scalar_same s t ≡ true → s ≡ t
scalar_equal null null e = refl
scalar_equal (boolean a) (boolean b) e = ap boolean (truth_equal a b e)
scalar_equal (ubyte m) (ubyte n) e = ap ubyte ((Decides-eqb m n).0 e)
scalar_equal (ushort m) (ushort n) e = ap ushort ((Decides-eqb m n).0 e)
scalar_equal (uint m) (uint n) e = ap uint ((Decides-eqb m n).0 e)
scalar_equal (ulong m) (ulong n) e = ap ulong ((Decides-eqb m n).0 e)
scalar_equal (float m) (float n) e = ap float ((Decides-eqb m n).0 e)
scalar_equal (double m) (double n) e = ap double ((Decides-eqb m n).0 e)
scalar_equal (char m) (char n) e = ap char ((Decides-eqb m n).0 e)
scalar_equal (byte m) (byte n) e = ap byte ((Decides-int_eq m n).0 e)
scalar_equal (short m) (short n) e = ap short ((Decides-int_eq m n).0 e)
scalar_equal (int m) (int n) e = ap int ((Decides-int_eq m n).0 e)
scalar_equal (long m) (long n) e = ap long ((Decides-int_eq m n).0 e)
scalar_equal (timestamp m) (timestamp n) e = ap timestamp ((Decides-int_eq m n).0 e)
scalar_equal (decimal32 a) (decimal32 b) e = ap decimal32 ((bytes_decides a b).0 e)
scalar_equal (decimal64 a) (decimal64 b) e = ap decimal64 ((bytes_decides a b).0 e)
scalar_equal (decimal128 a) (decimal128 b) e = ap decimal128 ((bytes_decides a b).0 e)
scalar_equal (uuid a) (uuid b) e = ap uuid ((bytes_decides a b).0 e)
scalar_equal (binary a) (binary b) e = ap binary ((bytes_decides a b).0 e)
scalar_equal (string a) (string b) e = ap string ((bytes_decides a b).0 e)
scalar_equal (symbol a) (symbol b) e = ap symbol ((bytes_decides a b).0 e)
scalar_equal s t e = absurd (true≢false (sym e))

mutual
  pub item_self : (x : Item) → item_same x x ≡ true
  item_self (scalar s) = scalar_self s
  item_self (raw b) = (bytes_decides b b).1 refl
  item_self (list xs) = items_self xs
  item_self (map ps) = pairs_self ps
  item_self (array xs) = items_self xs
  item_self (described d x) = ap (λ (b : Bool). b && item_same x x) (item_self d) ∙ item_self x

  items_self : (xs : Items) → items_same xs xs ≡ true
  items_self no_items = refl
  items_self (more_items x xs) = ap (λ (b : Bool). b && items_same xs xs) (item_self x) ∙ items_self xs

  pairs_self : (ps : Pairs) → pairs_same ps ps ≡ true
  pairs_self no_pairs = refl
  pairs_self (more_pairs x y ps) =
      ap (λ (b : Bool). (b && item_same y y) && pairs_same ps ps) (item_self x)
      ∙ ap (λ (b : Bool). b && pairs_same ps ps) (item_self y) ∙ pairs_self ps

mutual
  pub item_equal : (x y : Item) → item_same x y ≡ true → x ≡ y
  item_equal (scalar s) (scalar t) e = ap scalar (scalar_equal s t e)
  item_equal (raw a) (raw b) e = ap raw ((bytes_decides a b).0 e)
  item_equal (list xs) (list ys) e = ap list (items_equal xs ys e)
  item_equal (map ps) (map qs) e = ap map (pairs_equal ps qs e)
  item_equal (array xs) (array ys) e = ap array (items_equal xs ys e)
  item_equal (described d x) (described c y) e =
      let p = both (item_same d c) (item_same x y) e in
      λ i. described (item_equal d c p.0 i) (item_equal x y p.1 i)
  item_equal x y e = absurd (true≢false (sym e))

  items_equal : (xs ys : Items) → items_same xs ys ≡ true → xs ≡ ys
  items_equal no_items no_items e = refl
  items_equal (more_items x xs) (more_items y ys) e =
      let p = both (item_same x y) (items_same xs ys) e in
      λ i. more_items (item_equal x y p.0 i) (items_equal xs ys p.1 i)
  items_equal xs ys e = absurd (true≢false (sym e))

  pairs_equal : (ps qs : Pairs) → pairs_same ps qs ≡ true → ps ≡ qs
  pairs_equal no_pairs no_pairs e = refl
  pairs_equal (more_pairs k v ps) (more_pairs l w qs) e =
      let p = both (item_same k l && item_same v w) (pairs_same ps qs) e in
      let q = both (item_same k l) (item_same v w) p.0 in
      λ i. more_pairs (item_equal k l q.0 i) (item_equal v w q.1 i) (pairs_equal ps qs p.1 i)
  pairs_equal ps qs e = absurd (true≢false (sym e))

pub item_decides : (x y : Item) → Decides (item_same x y) (x ≡ y)
item_decides x y = (item_equal x y, λ e. subst (λ (z : Item). item_same x z ≡ true) e (item_self x))
