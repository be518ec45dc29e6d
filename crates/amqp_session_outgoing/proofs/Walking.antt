-- How the unsettled deliveries of a range are gathered number by number.
use Rattle.std.proofs.Common.{◌≡◌, ℕ, ◌+◌, ◌<◌, ◌≤◌, ◌⊎◌, inl, inr, suc, List, [], ◌∷◌, ◌++◌, Contains, Less, refl, sym, ap, subst, ◌∙◌, arith}
use Rattle.std.specs.List.{AllByRecursion}
use Rattle.std.specs.List.Sorted.{IsStrictlySortedBy}
use Rattle.std.specs.Ordering.{nat_cmp}
use Rattle.std.specs.Cmp.{nat_cmp_is}
use Rattle.std.proofs.lemmas.List.{map-append}
use Rattle.std.proofs.lemmas.List.Elements.{Contains-push, Contains-push_cases, Contains-append_left}
use Rattle.amqp_session_outgoing.specs.Table.{Table, IsUnsettled}
use Rattle.amqp_session_outgoing.specs.Touched.{number_at, Touches}

all-push : (P : ℕ → Type 0) (xs : List ℕ) (x : ℕ) → AllByRecursion P xs → P x → AllByRecursion P (xs ++ x ∷ [])
all-push P [] x all p = (p, tt)
all-push P (y ∷ xs) x all p = (all.0, all-push P xs x all.1 p)

-- a larger one goes last
sorted-push : (xs : List ℕ) (x : ℕ) → ((y : ℕ) → Contains xs y → y < x) → IsStrictlySortedBy nat_cmp xs → IsStrictlySortedBy nat_cmp (xs ++ x ∷ [])
unfolding IsStrictlySortedBy
sorted-push [] x below rising = (tt, tt)
sorted-push (y ∷ xs) x below rising = (
  all-push (λ (z : ℕ). nat_cmp y z ≡ Less) xs x rising.0 (sym (nat_cmp_is y x Less (below y (0, omega arith, refl)))),
  sorted-push xs x (λ z c. below z (suc c.0, omega (arith, c.1), c.2)) rising.1,
)

sorted-none : IsStrictlySortedBy nat_cmp []
unfolding IsStrictlySortedBy
sorted-none = tt

-- before the first number
pub walked-none : (first : ℕ) (table : Table) → Touches (record { first = first; count = 0 }) table []
walked-none first table =
    record { distances = []; are = refl; rising = sorted-none; each = λ d. ((λ c. absurd (omega (arith, c.1))), (λ is. absurd (omega (arith, is.0)))) }

-- a number of an unsettled delivery
pub walked-more : (first count : ℕ) (table : Table) (numbers : List ℕ) → IsUnsettled table (number_at first count)
    → Touches (record { first = first; count = count }) table numbers → Touches (record { first = first; count = count + 1 }) table (numbers ++ number_at first count ∷ [])
walked-more first count table numbers unsettled t =
    record {
      distances = t.distances ++ count ∷ [];
      are = ap (λ (xs : List ℕ). xs ++ number_at first count ∷ []) t.are ∙ sym (map-append (number_at first) t.distances (count ∷ []));
      rising = sorted-push t.distances count (λ d c. ((t.each d).0 c).0) t.rising;
      each = λ d. (has d, is d (below_or_not d));
    }
  where
    below_or_not : (d : ℕ) → (d < count) ⊎ (count ≤ d)
    below_or_not d = grind arith

    has : (d : ℕ) → Contains (t.distances ++ count ∷ []) d → (d < count + 1) × IsUnsettled table (number_at first d)
    has d c = elim (Contains-push_cases t.distances count d c) [
      | inl was ↦ (omega (arith, ((t.each d).0 was).0), ((t.each d).0 was).1)
      | inr here ↦ (omega (arith, here), subst (λ (x : ℕ). IsUnsettled table (number_at first x)) here unsettled)
    ]

    is : (d : ℕ) → (d < count) ⊎ (count ≤ d) → (d < count + 1) × IsUnsettled table (number_at first d) → Contains (t.distances ++ count ∷ []) d
    is d (inl less) p = Contains-append_left t.distances (count ∷ []) d ((t.each d).1 (less, p.1))
    is d (inr more) p =
        let here : count ≡ d = omega (arith, more, p.0) in
        subst (λ (x : ℕ). Contains (t.distances ++ count ∷ []) x) here (Contains-push t.distances count)

-- another number
pub walked-past : (first count : ℕ) (table : Table) (numbers : List ℕ) → (IsUnsettled table (number_at first count) → ⊥)
    → Touches (record { first = first; count = count }) table numbers → Touches (record { first = first; count = count + 1 }) table numbers
walked-past first count table numbers settled t =
    record {
      distances = t.distances;
      are = t.are;
      rising = t.rising;
      each = λ d. ((λ c. (omega (arith, ((t.each d).0 c).0), ((t.each d).0 c).1)), is d (below_or_not d));
    }
  where
    below_or_not : (d : ℕ) → (d < count) ⊎ (count ≤ d)
    below_or_not d = grind arith

    is : (d : ℕ) → (d < count) ⊎ (count ≤ d) → (d < count + 1) × IsUnsettled table (number_at first d) → Contains t.distances d
    is d (inl less) p = (t.each d).1 (less, p.1)
    is d (inr more) p =
        let here : d ≡ count = omega (arith, more, p.0) in
        absurd (settled (subst (λ (x : ℕ). IsUnsettled table (number_at first x)) here p.1))
