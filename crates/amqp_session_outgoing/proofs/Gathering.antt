-- How the distances of unsettled deliveries are gathered.
use Rattle.std.proofs.Common.{◌≡◌, ℕ, ◌+◌, ◌<◌, ◌≤◌, ◌^◌, ◌⊎◌, inl, inr, true, List, [], ◌∷◌, ◌++◌, append_assoc, nat_eq, Option, Some, None, IsTrue, is_some, true≢false, refl, sym, ap, subst, ◌∙◌, arith, length}
use Rattle.std.specs.Prelude.{slice_get, ◌==◌, ◌↔◌, map}
use Rattle.std.proofs.lemmas.List.{append-nil, map-append}
use Rattle.std.proofs.lemmas.Map.Views.{btree_set_contains_iff}
use Rattle.std.specs.Cmp.{nat_cmp_total}
use Rattle.std.specs.FinMap.{nat_cmp-IsAntisymmetric}
use Rattle.std.proofs.lemmas.Option.{slice_get_past}
use Rattle.std.proofs.lemmas.Bool.Decides.{eqb_tells}
use Rattle.std.specs.FinMap as tables
use Rattle.std.specs.Map.{lookup}
use Rattle.std.specs.Ordering.{nat_cmp}
use Rattle.std.specs.BTreeSet.{BTreeSet, contains, IsOrdered}
use Rattle.std.proofs.lemmas.Map.Entries.{place_from_lookup}
use Rattle.amqp_session_outgoing.specs.Range.{ahead}
use Rattle.amqp_session_outgoing.specs.Table.{Table, IsUnsettled}
use Rattle.amqp_session_outgoing.specs.Touched.{number_at, Touches}
use Rattle.amqp_session_outgoing.specs.Noted.{Notes}
use Rattle.amqp_session_outgoing.specs.declared.range.DeliveryRange.{DeliveryRange}
use Rattle.amqp_session_outgoing.specs.declared.delivery.Delivery.{Delivery}
use Rattle.amqp_session_types.proofs.Tables.{get-entries}

-- what is gathered is of unsettled deliveries
abbrev pub Sound : Table → ℕ → ℕ → BTreeSet ℕ → Type 0
Sound table first count set = (d : ℕ) → IsTrue (contains nat_cmp set d) → (d < count) × IsUnsettled table (number_at first d)

-- the deliveries before this place are gathered
abbrev pub Complete : List (ℕ × Delivery) → ℕ → ℕ → ℕ → BTreeSet ℕ → Type 0
Complete entries first count i set = (j : ℕ) (e : ℕ × Delivery) → j < i → slice_get entries j ≡ Some e → ahead e.0 first < count → IsTrue (contains nat_cmp set (ahead e.0 first))

back : (first n : ℕ) → first < 2 ^ 32 → n < 2 ^ 32 → number_at first (ahead n first) ≡ n
back first n f l = omega (arith, f, l)

forth : (first d : ℕ) → first < 2 ^ 32 → d < 2 ^ 32 → ahead (number_at first d) first ≡ d
forth first d f l = omega (arith, f, l)

pub sound-more : (table : Table) (first count n : ℕ) (old new : BTreeSet ℕ) → first < 2 ^ 32 → n < 2 ^ 32 → IsUnsettled table n → Notes first count n old new
    → Sound table first count old → Sound table first count new
sound-more table first count n old new f l unsettled notes sound d has =
    elim (notes.no_more d has) [
      | inl was ↦ sound d was
      | inr here ↦ (subst (λ (x : ℕ). x < count) (sym here.1) here.0, subst (λ (x : ℕ). IsUnsettled table (number_at first x)) (sym here.1) (subst (λ (x : ℕ). IsUnsettled table x) (sym (back first n f l)) unsettled))
    ]

pub complete-more : (entries : List (ℕ × Delivery)) (first count i n : ℕ) (v : Delivery) (old new : BTreeSet ℕ) → slice_get entries i ≡ Some (n, v) → Notes first count n old new
    → Complete entries first count i old → Complete entries first count (i + 1) new
complete-more entries first count i n v old new at notes complete j e lt is names = by (split j)
  where
    split : (j : ℕ) → (j < i) ⊎ (i ≤ j)
    split j = grind arith

    by : (j < i) ⊎ (i ≤ j) → IsTrue (contains nat_cmp new (ahead e.0 first))
    by (inl less) = notes.kept (ahead e.0 first) (complete j e less is names)
    by (inr more) =
        let here : j ≡ i = omega arith in
        let same : Some e ≡ Some (n, v) = sym is ∙ ap (λ (k : ℕ). slice_get entries k) here ∙ at in
        let key : e.0 ≡ n = cc in
        subst (λ (x : ℕ). IsTrue (contains nat_cmp new (ahead x first))) (sym key) (notes.noted (subst (λ (x : ℕ). ahead x first < count) key names))

within-length : (es : List (ℕ × Delivery)) (i : ℕ) (e : ℕ × Delivery) → slice_get es i ≡ Some e → i < length es
within-length es i e is = by (split i)
  where
    split : (i : ℕ) → (i < length es) ⊎ (length es ≤ i)
    split i = grind arith

    by : (i < length es) ⊎ (length es ≤ i) → i < length es
    by (inl less) = less
    by (inr past) = absurd (true≢false (ap is_some (sym is ∙ slice_get_past es i past)))

same_number : (x y : ℕ) → (x == y) ≡ true → x ≡ y
same_number x y e = elim (eqb_tells x y) [ inl p ↦ p.1 | inr p ↦ absurd (true≢false (sym e ∙ p.0)) ]

-- all are gathered
pub complete-each : (entries : List (ℕ × Delivery)) (first count i : ℕ) (set : BTreeSet ℕ) → first < 2 ^ 32 → count < 2 ^ 32 → length entries ≤ i → Complete entries first count i set
    → (d : ℕ) → (d < count) × IsUnsettled (tables.from_entries entries) (number_at first d) → IsTrue (contains nat_cmp set d)
complete-each entries first count i set f l whole complete d is = found (lookup (nat_eq (number_at first d)) entries) refl
  where
    same : ahead (number_at first d) first ≡ d
    same = forth first d f (omega (arith, is.0, l))

    found : (o : Option Delivery) → lookup (nat_eq (number_at first d)) entries ≡ o → IsTrue (contains nat_cmp set d)
    found None none = absurd (true≢false (sym is.1 ∙ ap is_some (get-entries entries (number_at first d) ∙ none)))
    found (Some v) some =
        let place = place_from_lookup (nat_eq (number_at first d)) entries v some in
        let key : number_at first d ≡ place.1 = same_number (number_at first d) place.1 place.3 in
        let here : ahead place.1 first ≡ d = ap (λ (n : ℕ). ahead n first) (sym key) ∙ same in
        subst (λ (x : ℕ). IsTrue (contains nat_cmp set x)) here
        (complete place.0 (place.1, v) (omega (arith, within-length entries place.0 (place.1, v) place.2, whole)) place.2 (subst (λ (x : ℕ). x < count) (sym here) is.0))

-- one more is taken out
pub taken-more : (f : ℕ → ℕ) (keys rest more numbers new : List ℕ) (d : ℕ) → (taken : List ℕ) × (keys ≡ taken ++ rest) × (numbers ≡ map f taken) → rest ≡ d ∷ more → new ≡ numbers ++ f d ∷ []
    → (taken : List ℕ) × (keys ≡ taken ++ more) × (new ≡ map f taken)
taken-more f keys rest more numbers new d t is pushed = (
  t.0 ++ d ∷ [],
  t.1 ∙ ap (λ (xs : List ℕ). t.0 ++ xs) is ∙ sym (append_assoc t.0 (d ∷ []) more),
  pushed ∙ ap (λ (xs : List ℕ). xs ++ f d ∷ []) t.2 ∙ sym (map-append f t.0 (d ∷ [])),
)

empty : (xs : List ℕ) → length xs ≡ 0 → xs ≡ []
empty [] e = refl
empty (x ∷ xs) e = absurd (omega (arith, e))

-- all are taken out
pub touched-all : (range : DeliveryRange) (table : Table) (set : BTreeSet ℕ) (rest numbers : List ℕ) → IsOrdered nat_cmp set
    → ((d : ℕ) → IsTrue (contains nat_cmp set d) ↔ ((d < range.count) × IsUnsettled table (number_at range.first d)))
    → (taken : List ℕ) × (set.keys ≡ taken ++ rest) × (numbers ≡ map (number_at range.first) taken) → length rest ≡ 0 → Touches range table numbers
touched-all range table set rest numbers ordered each t none =
    let all : set.keys ≡ t.0 = t.1 ∙ ap (λ (xs : List ℕ). t.0 ++ xs) (empty rest none) ∙ append-nil t.0 in
    record {
      distances = set.keys;
      are = t.2 ∙ ap (λ (xs : List ℕ). map (number_at range.first) xs) (sym all);
      rising = ordered;
      each = λ d.
          let same = btree_set_contains_iff nat_cmp_total nat_cmp-IsAntisymmetric set d in
          (λ has. (each d).0 (same.1 has), λ is. same.0 ((each d).1 is));
    }
