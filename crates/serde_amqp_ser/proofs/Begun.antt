-- Lists and maps that are being written.
use Rattle.std.proofs.Common.{◌≡◌, ℕ, ◌*◌, ◌≤◌, ◌^◌, inl, inr, List, [], ◌∷◌, ◌++◌, length, Some, None, sym, ◌∙◌, ap, subst, refl, arith}
use Rattle.std.proofs.lemmas.List.{map-append}
use Rattle.serde_amqp_item.specs.Item.{Item, Items, list, map, items_of, pairs_of, more_items, pair_count, keys_and_values}
use Rattle.serde_amqp_item.specs.Canon.{canon, canon_all, canon_pairs, Place, alone, first, next, placed, map_placed}
use Rattle.serde_amqp_item.proofs.Texts.{list_not_placed, canon_all_stuck, map_is_placed, map_not_placed, pair_count-le-length}
use Rattle.serde_amqp_item.proofs.Places.{canon_pairs_stuck}
use Rattle.serde_amqp_item.proofs.PairRows.{canon_in_turn}
use Rattle.serde_amqp_ser.specs.Written.{Written, extended, inside, Keeps}
use Rattle.serde_amqp_ser.specs.Puts.{State, behind, serialized, counted_placed, place_of}
use Rattle.serde_amqp_item.specs.Entries.{pair_items}
use Rattle.serde_amqp_ser.specs.Open.{IsOpen, IsMark, in_turn}
use Rattle.serde_amqp_ser.specs.declared.opened.Opened.{Opened}
use Rattle.serde_amqp_ser.proofs.Listed.{item_count-items_of, alone_stays, alone_none_of, listed_text, listed_more, listed_stuck, listed_keeps}
use Rattle.serde_amqp_ser.proofs.Counted.{counted_long}
use Rattle.serde_amqp_ser.proofs.Fronts.{list_long}

-- no items
pub open_none : (begins : ℕ → ℕ) (w now : Written) → now ≡ extended (inside begins w) [] → IsOpen begins w [] (record { written = now; place = alone })
open_none begins w now e = record { items = ap (λ (v : Written). Some v) (sym e); outside = refl }

-- one item more
pub open_more : (begins : ℕ → ℕ) (w : Written) (xs : List Item) (x : Item) (s t : State) → IsOpen begins w xs s → serialized s x ≡ Some t → IsOpen begins w (xs ++ x ∷ []) t
open_more begins w xs x s t o e = record {
  items = listed_more (inside begins w) s.written xs x s t o.items refl o.outside e;
  outside = alone_stays x s t o.outside e;
}

-- an item that can't be written
pub item_stuck : (begins : ℕ → ℕ) (w : Written) (xs ys : List Item) (x : Item) (s t : State) → IsOpen begins w xs s → serialized s x ≡ None → serialized t (list (items_of (xs ++ x ∷ ys))) ≡ None
item_stuck begins w xs ys x s t o e = listed_stuck xs ys x s t o.outside e

-- the bytes before stay
pub open_keeps : (begins : ℕ → ℕ) (w : Written) (xs : List Item) (s : State) → IsOpen begins w xs s → Keeps w s.written
open_keeps begins w xs s o = listed_keeps begins w s.written (items_of xs) o.items

-- a pair more, in turn
pub in_turn_more : (ps : List (Item × Item)) (x y : Item) → in_turn (ps ++ (x, y) ∷ []) ≡ (in_turn ps ++ x ∷ []) ++ y ∷ []
in_turn_more [] x y = refl
in_turn_more (p ∷ ps) x y = ap (λ (xs : List Item). p.0 ∷ p.1 ∷ xs) (in_turn_more ps x y)

pub open_pair : (begins : ℕ → ℕ) (w : Written) (ps : List (Item × Item)) (x y : Item) (s t u : State) → IsOpen begins w (in_turn ps) s → serialized s x ≡ Some t → serialized t y ≡ Some u → IsOpen begins w (in_turn (ps ++ (x, y) ∷ [])) u
open_pair begins w ps x y s t u o e f =
    subst (λ (xs : List Item). IsOpen begins w xs u) (sym (in_turn_more ps x y)) (open_more begins w (in_turn ps ++ x ∷ []) y t u (open_more begins w (in_turn ps) x s t o e) f)

-- a key or a value that can't be written
pub key_stuck : (begins : ℕ → ℕ) (w : Written) (ps qs : List (Item × Item)) (x y : Item) (s t : State) → IsOpen begins w (in_turn ps) s → serialized s x ≡ None → serialized t (map (pairs_of (ps ++ (x, y) ∷ qs))) ≡ None
key_stuck begins w ps qs x y s t o e = ap (behind t) (map_not_placed t.place (pairs_of (ps ++ (x, y) ∷ qs)) (canon_pairs_stuck ps qs x y (inl (alone_none_of x s o.outside e))))

pub value_stuck : (begins : ℕ → ℕ) (w : Written) (ps qs : List (Item × Item)) (x y : Item) (s u t : State) → IsOpen begins w (in_turn ps) s → serialized s x ≡ Some u → serialized u y ≡ None → serialized t (map (pairs_of (ps ++ (x, y) ∷ qs))) ≡ None
value_stuck begins w ps qs x y s u t o f e =
    ap (behind t) (map_not_placed t.place (pairs_of (ps ++ (x, y) ∷ qs)) (canon_pairs_stuck ps qs x y (inr (alone_none_of y u (alone_stays x s u o.outside f) e))))

items_in_turn : (ps : List (Item × Item)) → items_of (in_turn ps) ≡ keys_and_values (pairs_of ps)
items_in_turn [] = refl
items_in_turn (p ∷ ps) = ap (λ (xs : Items). more_items p.0 (more_items p.1 xs)) (items_in_turn ps)

pub pair_count-pairs_of : (ps : List (Item × Item)) → pair_count (pairs_of ps) ≡ length ps
pair_count-pairs_of [] = refl
pair_count-pairs_of (p ∷ ps) = omega (arith, pair_count-pairs_of ps)

-- the content of a map, by its pairs
pub pairs_text : (begins : ℕ → ℕ) (w : Written) (ps : List (Item × Item)) (s : State) → IsOpen begins w (in_turn ps) s → (text : List ℕ) × (canon_pairs (pairs_of ps) ≡ Some text) × (s.written ≡ extended (inside begins w) text)
pairs_text begins w ps s o =
    let t = listed_text (inside begins w) s.written (items_of (in_turn ps)) o.items in
    (t.0, canon_in_turn (pairs_of ps) ∙ (ap canon_all (sym (items_in_turn ps)) ∙ t.1), t.2)

counted : (p : Place) (n : ℕ) (content : List ℕ) → map_placed p n content ≡ counted_placed p 0xc1 0xd1 n content
counted alone n content = refl
counted first n content = refl
counted (next c) n content = refl

-- a map is written by its content
pub map_counted : (p : Place) (ps : List (Item × Item)) (content : List ℕ) → canon_pairs (pairs_of ps) ≡ Some content → placed p (map (pairs_of ps)) ≡ counted_placed p 0xc1 0xd1 (2 * length ps) content
map_counted p ps content e =
    map_is_placed p (pairs_of ps) content e ∙ (counted p (2 * pair_count (pairs_of ps)) content ∙ ap (λ (n : ℕ). counted_placed p 0xc1 0xd1 (2 * n) content) (pair_count-pairs_of ps))

-- too many pairs for a map
pub map_long : (s : State) (ps : List (Item × Item)) (content : List ℕ) → canon_pairs (pairs_of ps) ≡ Some content → 2 ^ 32 ≤ 2 * length ps → serialized s (map (pairs_of ps)) ≡ None
map_long s ps content e n =
    ap (behind s) (map_counted s.place ps content e ∙ counted_long s.place 0xc1 0xd1 (2 * length ps) content (omega (arith, pair_count-le-length (pairs_of ps) content e, pair_count-pairs_of ps)))

-- the state at which a compound value began
pub mark_at : (s : State) (o : Opened) → IsMark s o → record { written = s.written; place = place_of o.outer } ≡ s
mark_at s o m = ap (λ (p : Place). record { written = s.written; place = p }) m.outer

-- a map by what is put in front of its content
pub record MapContent (begins : ℕ → ℕ) (s now : State) (o : Opened) (ps : List (Item × Item)) (count : ℕ) : Type 0 where
  pub content : List ℕ
  pub behind_it : now.written ≡ extended (inside begins s.written) content
  pub room : count ≤ length content
  pub same : serialized s (map (pairs_of ps)) ≡ behind (record { written = s.written; place = place_of o.outer }) (counted_placed (place_of o.outer) 0xc1 0xd1 count content)

pub map_content : (begins : ℕ → ℕ) (s now : State) (o : Opened) (ps : List (Item × Item)) (count : ℕ) → IsMark s o → IsOpen begins s.written (in_turn ps) now → 2 * length ps ≡ count → MapContent begins s now o ps count
map_content begins s now o ps count m i n =
    let t = pairs_text begins s.written ps now i in
    let placed_so : placed s.place (map (pairs_of ps)) ≡ counted_placed s.place 0xc1 0xd1 count t.0 = map_counted s.place ps t.0 t.1 ∙ ap (λ (k : ℕ). counted_placed s.place 0xc1 0xd1 k t.0) n in
    record {
      content = t.0;
      behind_it = t.2;
      room = omega (arith, pair_count-le-length (pairs_of ps) t.0 t.1, pair_count-pairs_of ps, n);
      same = ap (behind s) placed_so ∙ ap (λ (q : Place). behind (record { written = s.written; place = q }) (counted_placed q 0xc1 0xd1 count t.0)) (sym m.outer);
    }

pub length-in_turn : (ps : List (Item × Item)) → length (in_turn ps) ≡ 2 * length ps
length-in_turn [] = refl
length-in_turn (p ∷ ps) = omega (arith, length-in_turn ps)

-- more than a list or a map can count
pub list_over : (begins : ℕ → ℕ) (w : Written) (xs : List Item) (now s : State) → IsOpen begins w xs now → 2 ^ 32 ≤ length xs → serialized s (list (items_of xs)) ≡ None
list_over begins w xs now s o n = list_long s.written (inside begins w) now.written s.place (items_of xs) o.items (omega (arith, item_count-items_of xs, n))

pub map_over : (begins : ℕ → ℕ) (w : Written) (ps : List (Item × Item)) (now s : State) → IsOpen begins w (in_turn ps) now → 2 ^ 32 ≤ length (in_turn ps) → serialized s (map (pairs_of ps)) ≡ None
map_over begins w ps now s o n =
    let t = pairs_text begins w ps now o in
    map_long s ps t.0 t.1 (omega (arith, length-in_turn ps, n))

-- an item, a key or a value that has no canonical text
pub list_without : (s : State) (xs ys : List Item) (x : Item) → canon x ≡ None → serialized s (list (items_of (xs ++ x ∷ ys))) ≡ None
list_without s xs ys x e = ap (behind s) (list_not_placed s.place (items_of (xs ++ x ∷ ys)) (canon_all_stuck xs ys x e))

pub map_without_key : (s : State) (ps qs : List (Item × Item)) (x y : Item) → canon x ≡ None → serialized s (map (pairs_of (ps ++ (x, y) ∷ qs))) ≡ None
map_without_key s ps qs x y e = ap (behind s) (map_not_placed s.place (pairs_of (ps ++ (x, y) ∷ qs)) (canon_pairs_stuck ps qs x y (inl e)))

pub map_without_value : (s : State) (ps qs : List (Item × Item)) (x y : Item) → canon y ≡ None → serialized s (map (pairs_of (ps ++ (x, y) ∷ qs))) ≡ None
map_without_value s ps qs x y e = ap (behind s) (map_not_placed s.place (pairs_of (ps ++ (x, y) ∷ qs)) (canon_pairs_stuck ps qs x y (inr e)))

-- the items of the entries of a map
pub pair_items_more : {K V : Type 0} (key : K → Item) (value : V → Item) (es : List (K × V)) (e : K × V) → pair_items key value (es ++ e ∷ []) ≡ pair_items key value es ++ (key e.0, value e.1) ∷ []
pair_items_more key value es e = map-append (λ d. (key d.0, value d.1)) es (e ∷ [])

pub pair_items_split : {K V : Type 0} (key : K → Item) (value : V → Item) (all es left : List (K × V)) (e : K × V) → all ≡ es ++ e ∷ left → pair_items key value all ≡ pair_items key value es ++ (key e.0, value e.1) ∷ pair_items key value left
pair_items_split key value all es left e h = ap (pair_items key value) h ∙ map-append (λ d. (key d.0, value d.1)) es (e ∷ left)

pub ruleset opening = (open_none, open_more, open_keeps, open_pair, item_stuck, key_stuck, value_stuck)
