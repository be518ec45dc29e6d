-- Bytes give one map in the order of its keys, its pairs are the items' pairs put in order, and the item of such a
-- map is taken as it is.
use Rattle.std.proofs.Common.{◌≡◌, List, [], ◌∷◌, Option, Some, None, sym, ◌∙◌, ap, refl}
use Rattle.std.specs.BTreeMap.{insert_entry}
use Rattle.std.specs.Cmp.{IsTotalOrder}
use Rattle.std.specs.Ordering.{match_ordering}
use Rattle.std.specs.declared.cmp.Ordering.{Ordering}
use Rattle.std.specs.declared.cmp.Ordering.TheVariants.{Less, Equal, Greater}
use Rattle.serde_amqp_item.specs.Item.{Item, map, pairs_of}
use Rattle.serde_amqp_item.specs.Canon.{◌>>=◌}
use Rattle.serde_amqp_item.specs.Entries.{pair_items, map_item, all_placed, sorted_item}
use Rattle.serde_amqp_item.proofs.Placing.{placed_once}
use Rattle.serde_amqp_de.specs.Decides.{Decided}
use Rattle.serde_amqp_de.specs.Maps.{pairs_taken}
use Rattle.serde_amqp_de.specs.MapLaws.{pairs_decided, pairs_again, map_item_same}
use Rattle.serde_amqp_de.specs.Sorted.{item_order, pairs_in_row, by_key, sorted_taken}

ordered_one : (o p : Option Item) (u v : Item) → ((y z : Item) → o ≡ Some y → p ≡ Some z → y ≡ z)
    → (o >>= λ y. Some (by_key y)) ≡ Some u → (p >>= λ y. Some (by_key y)) ≡ Some v → u ≡ v
ordered_one None p u v d e f = absurd cc
ordered_one (Some y) None u v d e f = absurd cc
ordered_one (Some y) (Some z) u v d e f = let both = ap by_key (d y z refl refl) in cc

pub sorted_decided : (key value : Item → Option Item) → Decided key → Decided value → Decided (sorted_taken key value)
unfolding sorted_taken
sorted_decided key value d i x y k a u v w z e f =
    ordered_one (pairs_taken key value x) (pairs_taken key value y) u v
    (λ s t m n. pairs_decided key value d i x y k a s t w z m n) e f

in_row_same : (qs : List (Item × Item)) → pairs_in_row (pairs_of qs) ≡ qs
in_row_same [] = refl
in_row_same (q ∷ qs) = ap (λ (rs : List (Item × Item)). q ∷ rs) (in_row_same qs)

-- keys compare as their items do
module _ {K V : Type 0} (order : K → K → Ordering) (key : K → Item) (value : V → Item)
    (ordered : (x y : K) → order x y ≡ item_order (key x) (key y)) where
  items_of_either : (o : Ordering) (ps qs rs : List (K × V))
      → pair_items key value (match_ordering o ps qs rs)
      ≡ match_ordering o (pair_items key value ps) (pair_items key value qs) (pair_items key value rs)
  items_of_either Less ps qs rs = refl
  items_of_either Equal ps qs rs = refl
  items_of_either Greater ps qs rs = refl

  item_placed : (es : List (K × V)) (k : K) (v : V)
      → pair_items key value (insert_entry order es k v)
      ≡ insert_entry item_order (pair_items key value es) (key k) (value v)
  item_placed [] k v = refl
  item_placed (e ∷ es) k v =
      let first : List (Item × Item) = (key k, value v) ∷ pair_items key value (e ∷ es) in
      let same : List (Item × Item) = (key e.0, value v) ∷ pair_items key value es in
      items_of_either (order k e.0) ((k, v) ∷ e ∷ es) ((e.0, v) ∷ es) (e ∷ insert_entry order es k v)
      ∙ ap (λ (l : List (Item × Item)). match_ordering (order k e.0) first same ((key e.0, value e.1) ∷ l))
      (item_placed es k v)
      ∙ ap (λ (o : Ordering). match_ordering o first same
      ((key e.0, value e.1) ∷ insert_entry item_order (pair_items key value es) (key k) (value v))) (ordered k e.0)

  items_placed : (es ps : List (K × V)) → pair_items key value (all_placed order es ps)
      ≡ all_placed item_order (pair_items key value es) (pair_items key value ps)
  items_placed es [] = refl
  items_placed es (p ∷ ps) =
      items_placed (insert_entry order es p.0 p.1) ps
      ∙ ap (λ (l : List (Item × Item)). all_placed item_order l (pair_items key value ps)) (item_placed es p.0 p.1)

  -- the item of pairs that were put in order is the pairs' item in order
  pub placed_item : (ps : List (K × V)) → by_key (map_item key value ps) ≡ map_item key value (all_placed order [] ps)
  placed_item ps =
      ap (λ (qs : List (Item × Item)). map (pairs_of (all_placed item_order [] qs)))
      (in_row_same (pair_items key value ps))
      ∙ ap (λ (qs : List (Item × Item)). map (pairs_of qs)) (sym (items_placed [] ps))

  -- the pairs of such a map, put in order again, are the map's
  pub sorted_item_placed : IsTotalOrder order → (es : List (K × V))
      → by_key (sorted_item order key value es) ≡ sorted_item order key value es
  sorted_item_placed total es =
      placed_item (all_placed order [] es) ∙ ap (λ (l : List (K × V)). map_item key value l)
      (placed_once order total es)

pub sorted_same : {K V : Type 0} (order : K → K → Ordering) (f g : K → Item) (h i : V → Item) → ((k : K) → f k ≡ g k)
    → ((v : V) → h v ≡ i v) → (es : List (K × V)) → sorted_item order f h es ≡ sorted_item order g i es
sorted_same order f g h i a b es = map_item_same f g h i a b (all_placed order [] es)

pub sorted_again : {K V : Type 0} (order : K → K → Ordering) (key value : Item → Option Item) (first : K → Item)
    (second : V → Item) → IsTotalOrder order → ((x y : K) → order x y ≡ item_order (first x) (first y))
    → ((k : K) → key (first k) ≡ Some (first k)) → ((v : V) → value (second v) ≡ Some (second v)) → (es : List (K × V))
    → sorted_taken key value (sorted_item order first second es) ≡ Some (sorted_item order first second es)
unfolding sorted_taken
sorted_again order key value first second total ordered a b es =
    ap (λ (o : Option Item). o >>= λ y. Some (by_key y))
    (pairs_again key value first second a b (all_placed order [] es))
    ∙ ap (λ (y : Item). Some y) (sorted_item_placed order first second ordered total es)
