-- What is made of the bytes of a map is one value, and a map's item is taken as it is.
use Rattle.std.proofs.Common.{◌≡◌, ℕ, ◌*◌, List, [], ◌∷◌, ◌++◌, Option, Some, None, sym, ◌∙◌, ap, subst, refl, arith}
use Rattle.std.proofs.lemmas.List.{append_cancel_left}
use Rattle.serde_amqp_item.specs.Item.{Item, map, Pairs, no_pairs, more_pairs, pairs_of, pair_count}
use Rattle.serde_amqp_item.specs.Wire.{Row, map_of, row_of, own, field, Wire, Form, PairForms, IsCapped, IsStrict}
use Rattle.serde_amqp_item.specs.Canon.{◌>>=◌}
use Rattle.serde_amqp_item.proofs.Forms.{wire_same, sized_same, field_same}
use Rattle.serde_amqp_item.specs.Entries.{pair_items, map_item}
use Rattle.serde_amqp_de.specs.Maps.{each_pair_taken, pairs_taken}
use Rattle.serde_amqp_de.specs.Decides.{Decided}
use Rattle.serde_amqp_de.specs.Apart.{both_forms}

-- two rows of as many pairs with the same bytes
pub record PairsTogether (ps qs : Pairs) : Type 0 where
  pub content : List ℕ
  pub count : pair_count ps ≡ pair_count qs
  pub left : PairForms IsCapped IsStrict ps content
  pub right : PairForms IsCapped IsStrict qs content

map_form_together : (ps qs : Pairs) (o : Option ℕ) (r : Row) (a : List ℕ) → Form IsCapped IsStrict (map ps) o r a
    → Form IsCapped IsStrict (map qs) o r a → PairsTogether ps qs
map_form_together ps qs o (map_of w) a g h =
    let z =
    sized_same w (field w (2 * pair_count ps) ++ g.0) (field w (2 * pair_count qs) ++ h.0) a a [] [] g.3 h.3 refl in
    let f = field_same w (2 * pair_count ps) (2 * pair_count qs) g.0 h.0 g.2 h.2 z.0 in
    record {
      content = g.0;
      count = omega (arith, f.0);
      left = g.4;
      right = subst (λ (s : List ℕ). PairForms IsCapped IsStrict qs s) (sym f.1) h.4;
    }
map_form_together ps qs o r a g h = absurd g

pub maps_together : (ps qs : Pairs) (k : Option ℕ) (a : List ℕ) → Wire (map ps) k a → Wire (map qs) k a
    → PairsTogether ps qs
maps_together ps qs k a g h = let b =
    both_forms (map ps) (map qs) k a g h in map_form_together ps qs (own k b.0) (row_of b.0) b.1 b.2 b.3

-- a key and a value in front of other pairs
bound : (o p : Option Item) (r : Option (List (Item × Item))) (us : List (Item × Item))
    → (o >>= λ x. p >>= λ y. r >>= λ qs. Some ((x, y) ∷ qs)) ≡ Some us
    → (x : Item) × (y : Item) × (qs : List (Item × Item)) × (o ≡ Some x) × (p ≡ Some y) × (r ≡ Some qs)
    × (us ≡ (x, y) ∷ qs)
bound None p r us e = absurd cc
bound (Some x) None r us e = absurd cc
bound (Some x) (Some y) None us e = absurd cc
bound (Some x) (Some y) (Some qs) us e = (x, y, qs, refl, refl, refl, cc)

-- what stands behind two items with the same bytes
record Parted (x y : Item) (s t : List ℕ) : Type 0 where
  front : List ℕ
  left : Wire x None front
  right : Wire y None front
  behind : t ≡ s

parted : (x y : Item) (a b s t : List ℕ) → Wire x None a → Wire y None b → a ++ s ≡ b ++ t → Parted x y s t
parted x y a b s t g h e =
    let same = wire_same x y None a b s t g h e in
    record {
      front = a;
      left = g;
      right = subst (λ (c : List ℕ). Wire y None c) (sym same.0) h;
      behind = sym (append_cancel_left a _ _ (e ∙ ap (λ (c : List ℕ). c ++ t) (sym same.0)));
    }

each_pair_decided : (key value : Item → Option Item) → Decided key → Decided value
    → (ps qs : Pairs) (a : List ℕ) (us vs : List (Item × Item)) → pair_count ps ≡ pair_count qs
    → PairForms IsCapped IsStrict ps a → PairForms IsCapped IsStrict qs a → each_pair_taken key value ps ≡ Some us
    → each_pair_taken key value qs ≡ Some vs → us ≡ vs
each_pair_decided key value d i no_pairs no_pairs a us vs c g h e f = let both : Some us ≡ Some vs = sym e ∙ f in cc
each_pair_decided key value d i no_pairs (more_pairs x y qs) a us vs c g h e f = absurd (omega arith)
each_pair_decided key value d i (more_pairs x y ps) no_pairs a us vs c g h e f = absurd (omega arith)
each_pair_decided key value d i (more_pairs x y ps) (more_pairs v w qs) a us vs c g h e f =
    let whole : (g.0 ∷ g.1) ++ (g.2 ∷ (g.3 ++ g.4)) ≡ (h.0 ∷ h.1) ++ (h.2 ∷ (h.3 ++ h.4)) = sym g.5 ∙ h.5 in
    let p =
    parted x v (g.0 ∷ g.1) (h.0 ∷ h.1) (g.2 ∷ (g.3 ++ g.4)) (h.2 ∷ (h.3 ++ h.4)) (g.0, g.1, refl, g.6)
    (h.0, h.1, refl, h.6) whole in
    let q = parted y w (g.2 ∷ g.3) (h.2 ∷ h.3) g.4 h.4 (g.2, g.3, refl, g.7) (h.2, h.3, refl, h.7) (sym p.behind) in
    let m = bound (key x) (value y) (each_pair_taken key value ps) us e in
    let n = bound (key v) (value w) (each_pair_taken key value qs) vs f in
    let keys : m.0 ≡ n.0 = d x v None p.front m.0 n.0 p.left p.right m.3 n.3 in
    let values : m.1 ≡ n.1 = i y w None q.front m.1 n.1 q.left q.right m.4 n.4 in
    let counts : pair_count ps ≡ pair_count qs = omega arith in
    let others : m.2 ≡ n.2 =
    each_pair_decided key value d i ps qs g.4 m.2 n.2 counts g.8
    (subst (λ (s : List ℕ). PairForms IsCapped IsStrict qs s) q.behind h.8) m.5 n.5 in
    m.6 ∙ (ap (λ (z : Item). (z, m.1) ∷ m.2) keys ∙
    (ap (λ (z : Item). (n.0, z) ∷ m.2) values ∙
    (ap (λ (zs : List (Item × Item)). (n.0, n.1) ∷ zs) others ∙ sym n.6)))

made : (p q : Option (List (Item × Item))) (u v : Item)
    → ((us vs : List (Item × Item)) → p ≡ Some us → q ≡ Some vs → us ≡ vs)
    → (p >>= λ us. Some (map (pairs_of us))) ≡ Some u → (q >>= λ us. Some (map (pairs_of us))) ≡ Some v → u ≡ v
made None q u v d e f = absurd cc
made (Some us) None u v d e f = absurd cc
made (Some us) (Some vs) u v d e f = let same =
    ap (λ (ws : List (Item × Item)). map (pairs_of ws)) (d us vs refl refl) in cc

pub pairs_decided : (key value : Item → Option Item) → Decided key → Decided value → Decided (pairs_taken key value)
unfolding pairs_taken
pairs_decided key value d i (map ps) (map qs) k a u v g h e f =
    let t = maps_together ps qs k a g h in
    made (each_pair_taken key value ps) (each_pair_taken key value qs) u v
    (λ us vs m n. each_pair_decided key value d i ps qs t.content us vs t.count t.left t.right m n) e f
pairs_decided key value d i (map ps) y k a u v g h e f = absurd cc
pairs_decided key value d i x y k a u v g h e f = absurd cc

each_pair_again : {X Y : Type 0} (key value : Item → Option Item) (first : X → Item) (second : Y → Item)
    → ((x : X) → key (first x) ≡ Some (first x)) → ((y : Y) → value (second y) ≡ Some (second y)) → (ps : List (X × Y))
    → each_pair_taken key value (pairs_of (pair_items first second ps)) ≡ Some (pair_items first second ps)
each_pair_again key value first second a b [] = refl
each_pair_again key value first second a b (p ∷ ps) =
    ap (λ (o : Option Item). o >>= λ x. value (second p.1) >>= λ y.
    each_pair_taken key value (pairs_of (pair_items first second ps)) >>= λ qs. Some ((x, y) ∷ qs)) (a p.0)
    ∙
    (ap (λ (o : Option Item). o >>= λ y. each_pair_taken key value (pairs_of (pair_items first second ps)) >>= λ qs.
    Some ((first p.0, y) ∷ qs)) (b p.1)
    ∙ ap (λ (o : Option (List (Item × Item))). o >>= λ qs. Some ((first p.0, second p.1) ∷ qs))
    (each_pair_again key value first second a b ps))

-- a map's item is taken as it is
pub pairs_again : {X Y : Type 0} (key value : Item → Option Item) (first : X → Item) (second : Y → Item)
    → ((x : X) → key (first x) ≡ Some (first x)) → ((y : Y) → value (second y) ≡ Some (second y)) → (ps : List (X × Y))
    → pairs_taken key value (map_item first second ps) ≡ Some (map_item first second ps)
unfolding pairs_taken
pairs_again key value first second a b ps =
    ap (λ (o : Option (List (Item × Item))). o >>= λ qs. Some (map (pairs_of qs)))
    (each_pair_again key value first second a b ps)

pair_items_same : {X Y : Type 0} (f g : X → Item) (h i : Y → Item) → ((x : X) → f x ≡ g x) → ((y : Y) → h y ≡ i y)
    → (ps : List (X × Y)) → pair_items f h ps ≡ pair_items g i ps
pair_items_same f g h i a b [] = refl
pair_items_same f g h i a b (p ∷ ps) =
    ap (λ (z : Item). (z, h p.1) ∷ pair_items f h ps) (a p.0)
    ∙ (ap (λ (z : Item). (g p.0, z) ∷ pair_items f h ps) (b p.1)
    ∙ ap (λ (zs : List (Item × Item)). (g p.0, i p.1) ∷ zs) (pair_items_same f g h i a b ps))

-- what is written of keys and values is their items, so it is of a map
pub map_item_same : {X Y : Type 0} (f g : X → Item) (h i : Y → Item) → ((x : X) → f x ≡ g x) → ((y : Y) → h y ≡ i y)
    → (ps : List (X × Y)) → map_item f h ps ≡ map_item g i ps
map_item_same f g h i a b ps = ap (λ (qs : List (Item × Item)). map (pairs_of qs)) (pair_items_same f g h i a b ps)

pairs_of_same : (ps qs : List (Item × Item)) → pairs_of ps ≡ pairs_of qs → ps ≡ qs
pairs_of_same [] [] e = refl
pairs_of_same [] (q ∷ qs) e = absurd cc
pairs_of_same (p ∷ ps) [] e = absurd cc
pairs_of_same (p ∷ ps) (q ∷ qs) e =
    let keys : p.0 ≡ q.0 = cc in
    let values : p.1 ≡ q.1 = cc in
    let tail : pairs_of ps ≡ pairs_of qs = cc in
    ap (λ (x : Item). (x, p.1) ∷ ps) keys ∙ (ap (λ (y : Item). (q.0, y) ∷ ps) values ∙ ap
    (λ (rs : List (Item × Item)). q ∷ rs) (pairs_of_same ps qs tail))

pair_items_one : {X Y : Type 0} (first : X → Item) (second : Y → Item) → ((x z : X) → first x ≡ first z → x ≡ z)
    → ((y z : Y) → second y ≡ second z → y ≡ z) → (ps qs : List (X × Y))
    → pair_items first second ps ≡ pair_items first second qs → ps ≡ qs
pair_items_one first second a b [] [] e = refl
pair_items_one first second a b [] (q ∷ qs) e = absurd cc
pair_items_one first second a b (p ∷ ps) [] e = absurd cc
pair_items_one {X} {Y} first second a b (p ∷ ps) (q ∷ qs) e =
    let one : Item × Item = (first p.0, second p.1) in
    let other : Item × Item = (first q.0, second q.1) in
    let head : one ≡ other = cc in
    let tail : pair_items first second ps ≡ pair_items first second qs = cc in
    let keys : p.0 ≡ q.0 = a p.0 q.0 (ap (λ (z : Item × Item). z.0) head) in
    let values : p.1 ≡ q.1 = b p.1 q.1 (ap (λ (z : Item × Item). z.1) head) in
    ap (λ (x : X). (x, p.1) ∷ ps) keys ∙ (ap (λ (y : Y). (q.0, y) ∷ ps) values ∙ ap (λ (rs : List (X × Y)). q ∷ rs)
    (pair_items_one first second a b ps qs tail))

-- a map says its keys and values
pub map_item_faithful : {X Y : Type 0} (first : X → Item) (second : Y → Item) → ((x z : X) → first x ≡ first z → x ≡ z)
    → ((y z : Y) → second y ≡ second z → y ≡ z) → (ps qs : List (X × Y))
    → map_item first second ps ≡ map_item first second qs → ps ≡ qs
map_item_faithful first second a b ps qs e =
    let inner : pairs_of (pair_items first second ps) ≡ pairs_of (pair_items first second qs) = cc in
    pair_items_one first second a b ps qs (pairs_of_same (pair_items first second ps) (pair_items first second qs)
    inner)
