-- Pairs that are inserted one after the other, and their items.
use Rattle.std.proofs.Common.{◌≡◌, Bool, true, false, cond, not, is_some, ◌||◌, ◌&&◌, List, [], ◌∷◌, ◌++◌, Option, Some}
use Rattle.std.proofs.Common.{None, if◌then◌else◌, sym, ◌∙◌, ap, refl, append_assoc, append-nil}
use Rattle.std.specs.List.{list_any}
use Rattle.std.specs.Map.{keys_of, lookup, set_value}
use Rattle.serde_amqp_item.specs.Item.{Item}
use Rattle.serde_amqp_item.specs.Entries.{pair_items}
use Rattle.serde_amqp_values.specs.Items.{are_apart}
use Rattle.serde_amqp_values.specs.Pairs.{pairs_inserted, all_inserted}
use Rattle.serde_amqp_de.specs.Same.{item_same}

neither : (a b : Bool) → (a || b) ≡ false → (a ≡ false) × (b ≡ false)
neither true b e = absurd cc
neither false b e = (refl, e)

unlike_all : (a b : Bool) → (not a && b) ≡ true → (a ≡ false) × (b ≡ true)
unlike_all true b e = absurd cc
unlike_all false b e = (refl, e)

module _ {K V : Type 0} (same : K → K → Bool) where
  -- none of the keys passes, so the one in the middle doesn't
  none_between : (test : K → Bool) (ps : List (K × V)) (q : K × V) (qs : List (K × V))
      → list_any test (keys_of (ps ++ q ∷ qs)) ≡ false → test q.0 ≡ false
  none_between test [] q qs e = (neither (test q.0) (list_any test (keys_of qs)) e).0
  none_between test (p ∷ ps) q qs e =
      none_between test ps q qs (neither (test p.0) (list_any test (keys_of (ps ++ q ∷ qs))) e).1

  -- a key is not among those before it
  absent : (ps : List (K × V)) (q : K × V) (qs : List (K × V)) → are_apart same (keys_of (ps ++ q ∷ qs)) ≡ true
      → lookup (same q.0) ps ≡ None
  absent [] q qs e = refl
  absent (p ∷ ps) q qs e =
      let u =
      unlike_all (list_any (λ x. same x p.0) (keys_of (ps ++ q ∷ qs))) (are_apart same (keys_of (ps ++ q ∷ qs)))
      e in
      let other : same q.0 p.0 ≡ false = none_between (λ x. same x p.0) ps q qs u.0 in
      ap (λ (b : Bool). cond b (Some p.1) (lookup (same q.0) ps)) other ∙ absent ps q qs u.1

  new_last : (ps : List (K × V)) (k : K) (v : V) → lookup (same k) ps ≡ None
      → pairs_inserted same ps k v ≡ ps ++ (k, v) ∷ []
  new_last ps k v e = ap (λ (o : Option V). if is_some o then set_value (same k) ps v else ps ++ (k, v) ∷ []) e

  -- pairs whose keys are apart are put behind one another
  pub all_behind : (ps qs : List (K × V)) → are_apart same (keys_of (ps ++ qs)) ≡ true
      → all_inserted same ps qs ≡ ps ++ qs
  all_behind ps [] e = sym (append-nil ps)
  all_behind ps (q ∷ qs) e =
      let joined : (ps ++ q ∷ []) ++ qs ≡ ps ++ q ∷ qs = append_assoc ps (q ∷ []) qs in
      ap (λ (l : List (K × V)). all_inserted same l qs) (new_last ps q.0 q.1 (absent ps q qs e))
      ∙ all_behind (ps ++ q ∷ []) qs (ap (λ (l : List (K × V)). are_apart same (keys_of l)) joined ∙ e)
      ∙ joined

-- keys are equal exactly where their items are the same
module _ {K V : Type 0} (same : K → K → Bool) (key : K → Item) (value : V → Item)
    (equal : (x y : K) → same x y ≡ item_same (key x) (key y)) where
  any_item : (k : K) (ps : List (K × V)) → list_any (λ x. item_same x (key k)) (keys_of (pair_items key value ps))
      ≡ list_any (λ x. same x k) (keys_of ps)
  any_item k [] = refl
  any_item k (p ∷ ps) =
      ap (λ (b : Bool). b || list_any (λ x. item_same x (key k)) (keys_of (pair_items key value ps)))
      (sym (equal p.0 k))
      ∙ ap (λ (b : Bool). same p.0 k || b) (any_item k ps)

  pub items_apart : (ps : List (K × V)) → are_apart item_same (keys_of (pair_items key value ps))
      ≡ are_apart same (keys_of ps)
  items_apart [] = refl
  items_apart (p ∷ ps) =
      ap (λ (b : Bool). not b && are_apart item_same (keys_of (pair_items key value ps))) (any_item p.0 ps)
      ∙ ap (λ (b : Bool). not (list_any (λ x. same x p.0) (keys_of ps)) && b) (items_apart ps)

  found_by : (b : Bool) (v : V) (o : Option V) (r : Option Item) → is_some o ≡ is_some r
      → is_some (cond b (Some v) o) ≡ is_some (cond b (Some (value v)) r)
  found_by true v o r e = refl
  found_by false v o r e = e

  found_item : (k : K) (ps : List (K × V)) → is_some (lookup (same k) ps)
      ≡ is_some (lookup (item_same (key k)) (pair_items key value ps))
  found_item k [] = refl
  found_item k (p ∷ ps) =
      found_by (same k p.0) p.1 (lookup (same k) ps) (lookup (item_same (key k)) (pair_items key value ps))
      (found_item k ps)
      ∙ ap (λ (b : Bool). is_some (cond b (Some (value p.1)) (lookup (item_same (key k)) (pair_items key value ps))))
      (equal k p.0)

  items_of_either : (b : Bool) (ps qs : List (K × V))
      → pair_items key value (cond b ps qs) ≡ cond b (pair_items key value ps) (pair_items key value qs)
  items_of_either true ps qs = refl
  items_of_either false ps qs = refl

  set_item : (k : K) (v : V) (ps : List (K × V))
      → pair_items key value (set_value (same k) ps v)
      ≡ set_value (item_same (key k)) (pair_items key value ps) (value v)
  set_item k v [] = refl
  set_item k v (p ∷ ps) =
      items_of_either (same k p.0) ((p.0, v) ∷ ps) (p ∷ set_value (same k) ps v)
      ∙ ap (λ (l : List (Item × Item)). cond (same k p.0) ((key p.0, value v) ∷ pair_items key value ps)
      ((key p.0, value p.1) ∷ l)) (set_item k v ps)
      ∙ ap (λ (b : Bool). cond b ((key p.0, value v) ∷ pair_items key value ps)
      ((key p.0, value p.1) ∷ set_value (item_same (key k)) (pair_items key value ps) (value v))) (equal k p.0)

  item_behind : (ps : List (K × V)) (q : K × V)
      → pair_items key value (ps ++ q ∷ []) ≡ pair_items key value ps ++ (key q.0, value q.1) ∷ []
  item_behind [] q = refl
  item_behind (p ∷ ps) q = ap (λ (l : List (Item × Item)). (key p.0, value p.1) ∷ l) (item_behind ps q)

  inserted_if : (ps : List (K × V)) (k : K) (v : V) (b : Bool)
      → pair_items key value (if b then set_value (same k) ps v else ps ++ (k, v) ∷ [])
      ≡ (if b then set_value (item_same (key k)) (pair_items key value ps) (value v) else pair_items key value ps
      ++ (key k, value v) ∷ [])
  inserted_if ps k v true = set_item k v ps
  inserted_if ps k v false = item_behind ps (k, v)

  item_inserted : (ps : List (K × V)) (k : K) (v : V)
      → pair_items key value (pairs_inserted same ps k v)
      ≡ pairs_inserted item_same (pair_items key value ps) (key k) (value v)
  item_inserted ps k v =
      inserted_if ps k v (is_some (lookup (same k) ps))
      ∙ ap (λ (b : Bool). if b then set_value (item_same (key k)) (pair_items key value ps) (value v) else pair_items
      key value ps ++ (key k, value v) ∷ []) (found_item k ps)

  -- the items of pairs that are inserted are the items, inserted
  pub items_inserted : (ps qs : List (K × V)) → pair_items key value (all_inserted same ps qs)
      ≡ all_inserted item_same (pair_items key value ps) (pair_items key value qs)
  items_inserted ps [] = refl
  items_inserted ps (q ∷ qs) =
      items_inserted (pairs_inserted same ps q.0 q.1) qs
      ∙ ap (λ (l : List (Item × Item)). all_inserted item_same l (pair_items key value qs)) (item_inserted ps q.0 q.1)
