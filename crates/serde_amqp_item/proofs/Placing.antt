-- Entries that are in the order of their keys stay as they are, and entries that were put in order are in it.
use Rattle.std.proofs.Common.{◌≡◌, List, [], ◌∷◌, ◌++◌, sym, ◌∙◌, ap, subst, refl, append_assoc, append-nil}
use Rattle.std.specs.BTreeMap.{insert_entry}
use Rattle.std.specs.Cmp.{IsTotalOrder}
use Rattle.std.specs.List.{AllByRecursion}
use Rattle.std.specs.List.Sorted.{IsStrictlySortedBy}
use Rattle.std.specs.Map.{keys_of}
use Rattle.std.specs.Ordering.{match_ordering, ordering_reverse}
use Rattle.std.specs.declared.cmp.Ordering.{Ordering}
use Rattle.std.specs.declared.cmp.Ordering.TheVariants.{Less, Equal, Greater}
use Rattle.serde_amqp_item.specs.Entries.{all_placed}

below_all : {K : Type 0} (order : K → K → Ordering) → IsTotalOrder order → (k x : K) (ks : List K) → order k x ≡ Less → AllByRecursion (λ y. order x y ≡ Less) ks → AllByRecursion (λ y. order k y ≡ Less) ks
below_all order total k x [] l a = tt
below_all order total k x (y ∷ ks) l a = (total.trans k x y l a.0, below_all order total k x ks l a.1)

none_sorted : {K : Type 0} (order : K → K → Ordering) → IsStrictlySortedBy order []
unfolding IsStrictlySortedBy
none_sorted order = tt

module _ {K V : Type 0} (order : K → K → Ordering) (total : IsTotalOrder order) where
  below_middle : (x : K) (es : List (K × V)) (e : K × V) (more : List (K × V)) → AllByRecursion (λ y. order x y ≡ Less) (keys_of (es ++ e ∷ more)) → order x e.0 ≡ Less
  below_middle x [] e more h = h.0
  below_middle x (y ∷ es) e more h = below_middle x es e more h.1

  put_last : (done : List (K × V)) (e : K × V) (more : List (K × V)) → IsStrictlySortedBy order (keys_of (done ++ e ∷ more)) → insert_entry order done e.0 e.1 ≡ done ++ e ∷ []
  unfolding IsStrictlySortedBy
  put_last [] e more h = refl
  put_last (x ∷ done) e more h =
      let above : order e.0 x.0 ≡ Greater = total.antisymm e.0 x.0 ∙ ap ordering_reverse (below_middle x.0 done e more h.0) in
      let first : List (K × V) = e ∷ x ∷ done in
      let same : List (K × V) = (x.0, e.1) ∷ done in
      ap (λ (o : Ordering). match_ordering o first same (x ∷ insert_entry order done e.0 e.1)) above
      ∙ ap (λ (l : List (K × V)). x ∷ l) (put_last done e more h.1)

  all_last : (done es : List (K × V)) → IsStrictlySortedBy order (keys_of (done ++ es)) → all_placed order done es ≡ done ++ es
  all_last done [] s = sym (append-nil done)
  all_last done (e ∷ es) s =
      let whole : (done ++ e ∷ []) ++ es ≡ done ++ e ∷ es = append_assoc done (e ∷ []) es in
      ap (λ (l : List (K × V)). all_placed order l es) (put_last done e es s)
      ∙ (all_last (done ++ e ∷ []) es (subst (λ (l : List (K × V)). IsStrictlySortedBy order (keys_of l)) (sym whole) s) ∙ whole)

  -- what is in order stays as it is
  pub sorted_stays : (es : List (K × V)) → IsStrictlySortedBy order (keys_of es) → all_placed order [] es ≡ es
  sorted_stays es s = all_last [] es s

  below_either : (o : Ordering) (x : K) (e : K × V) (es : List (K × V)) (k : K) (v : V) → AllByRecursion (λ y. order x y ≡ Less) (keys_of (e ∷ es)) → order x k ≡ Less → AllByRecursion (λ y. order x y ≡ Less) (keys_of (insert_entry order es k v))
      → AllByRecursion (λ y. order x y ≡ Less) (keys_of (match_ordering o ((k, v) ∷ e ∷ es) ((e.0, v) ∷ es) (e ∷ insert_entry order es k v)))
  below_either Less x e es k v a l others = (l, a)
  below_either Equal x e es k v a l others = a
  below_either Greater x e es k v a l others = (a.0, others)

  below_put : (x : K) (es : List (K × V)) (k : K) (v : V) → AllByRecursion (λ y. order x y ≡ Less) (keys_of es) → order x k ≡ Less → AllByRecursion (λ y. order x y ≡ Less) (keys_of (insert_entry order es k v))
  below_put x [] k v a l = (l, tt)
  below_put x (e ∷ es) k v a l = below_either (order k e.0) x e es k v a l (below_put x es k v a.1 l)

  sorted_either : (o : Ordering) (e : K × V) (es : List (K × V)) (k : K) (v : V) → order k e.0 ≡ o → IsStrictlySortedBy order (keys_of (e ∷ es)) → IsStrictlySortedBy order (keys_of (insert_entry order es k v))
      → IsStrictlySortedBy order (keys_of (match_ordering o ((k, v) ∷ e ∷ es) ((e.0, v) ∷ es) (e ∷ insert_entry order es k v)))
  unfolding IsStrictlySortedBy
  sorted_either Less e es k v is s others = ((is, below_all order total k e.0 (keys_of es) is s.0), s)
  sorted_either Equal e es k v is s others = s
  sorted_either Greater e es k v is s others = (below_put e.0 es k v s.0 (total.antisymm e.0 k ∙ ap ordering_reverse is), others)

  sorted_put : (es : List (K × V)) (k : K) (v : V) → IsStrictlySortedBy order (keys_of es) → IsStrictlySortedBy order (keys_of (insert_entry order es k v))
  unfolding IsStrictlySortedBy
  sorted_put [] k v s = (tt, tt)
  sorted_put (e ∷ es) k v s = sorted_either (order k e.0) e es k v refl s (sorted_put es k v s.1)

  all_sorted : (es ps : List (K × V)) → IsStrictlySortedBy order (keys_of es) → IsStrictlySortedBy order (keys_of (all_placed order es ps))
  all_sorted es [] s = s
  all_sorted es (p ∷ ps) s = all_sorted (insert_entry order es p.0 p.1) ps (sorted_put es p.0 p.1 s)

  -- what was put in order stays as it is
  pub placed_once : (ps : List (K × V)) → all_placed order [] (all_placed order [] ps) ≡ all_placed order [] ps
  placed_once ps = sorted_stays (all_placed order [] ps) (all_sorted [] ps (none_sorted order))
