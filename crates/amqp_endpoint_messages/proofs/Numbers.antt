-- A disposition wants no more runs echoed than it reaches deliveries.
use Rattle.std.proofs.Common.{◌≡◌, ◌⊎◌, inl, inr, ℕ, zero, suc, ◌+◌, ◌%◌, ◌≤◌, ◌<◌, Bool, true, false, List, [], ◌∷◌}
use Rattle.std.proofs.Common.{map, length, arith, refl, sym, ap, subst, ◌∙◌}
use Rattle.std.specs.Prelude.{◌^◌, ◌==◌, Contains, if◌then◌else◌}
use Rattle.std.specs.List.Sorted.{IsStrictlySortedBy}
use Rattle.std.specs.Ordering.{nat_cmp}
use Rattle.std.proofs.lemmas.List.{length-map}
use Rattle.std.proofs.lemmas.Map.Keys.{below_from_sorted, sorted_tail}
use Rattle.amqp_session_performatives.specs.declared.disposition.Disposition.{Disposition}
use Rattle.amqp_session_outgoing.specs.Range.{range_of}
use Rattle.amqp_session_outgoing.specs.Table.{Table}
use Rattle.amqp_session_outgoing.specs.Touched.{Touches, number_at}
use Rattle.amqp_session_outgoing.specs.declared.range.DeliveryRange.{DeliveryRange}
use Rattle.amqp_session_core.specs.Disposing.{AreTouched, each_number}
use Rattle.amqp_session_core.specs.Echoes.{before_run, echo_of, echoed, runs_of}
use Rattle.amqp_session_core.specs.Relay.{Relations}
use Rattle.amqp_session_core.specs.State.{State}
use Rattle.amqp_session_core.specs.Steps.{table_of}
use Rattle.amqp_session_core.specs.Told.{DispositionTaken}
use Rattle.amqp_session_core.specs.declared.dispositions.Touched.{Touched}
use Rattle.amqp_session_core.proofs.Walking.{walked-bound}

-- a rising list that has no number but those of another one is no longer
find-more : (x : ℕ) (xs : List ℕ) (d : ℕ) → Contains xs d → Contains (x ∷ xs) d
find-more x xs d (k, below, is) = (suc k, omega (arith, below), is)

find-first : (x : ℕ) (xs : List ℕ) → Contains (x ∷ xs) x
find-first x xs = (zero, omega arith, refl)

none-in : (d : ℕ) → Contains [] d → ⊥
none-in d (k, below, is) = absurd (omega (arith, below))

first-or-rest : (x : ℕ) (xs : List ℕ) (d : ℕ) → Contains (x ∷ xs) d → (x ≡ d) ⊎ Contains xs d
first-or-rest x xs d (zero, below, is) = inl is
first-or-rest x xs d (suc k, below, is) = inr (k, omega (arith, below), is)

-- those behind the first are above it
above-first : (x : ℕ) (xs : List ℕ) (d : ℕ) → IsStrictlySortedBy nat_cmp (x ∷ xs) → Contains xs d → x < d
above-first x xs d rising (k, below, is) =
    let above = below_from_sorted (x ∷ xs) 0 (suc k) d rising (omega arith) (omega (arith, below)) in
    subst (λ (n : ℕ). x < n) is above

no-longer : (xs ys : List ℕ) → IsStrictlySortedBy nat_cmp xs → IsStrictlySortedBy nat_cmp ys
    → ((d : ℕ) → Contains xs d → Contains ys d) → length xs ≤ length ys
no-longer [] ys rising others in_them = omega arith
no-longer (x ∷ xs) [] rising others in_them = absurd (none-in x (in_them x (find-first x xs)))
no-longer (x ∷ xs) (y ∷ ys) rising others in_them =
    let few : length xs ≤ length ys =
    no-longer xs ys (sorted_tail nat_cmp x xs rising) (sorted_tail nat_cmp y ys others) rest in
    omega (arith, few)
  where
    -- the first of the others is no more than any of these
    least : y ≤ x
    least = by (first-or-rest y ys x (in_them x (find-first x xs)))
      where
        by : (y ≡ x) ⊎ Contains ys x → y ≤ x
        by (inl is) = omega (arith, is)
        by (inr there) = omega (arith, above-first y ys x others there)

    rest : (d : ℕ) → Contains xs d → Contains ys d
    rest d there = by (first-or-rest y ys d (in_them d (find-more x xs d there)))
      where
        by : (y ≡ d) ⊎ Contains ys d → Contains ys d
        by (inl is) = absurd (omega (arith, is, least, above-first x xs d rising there))
        by (inr found) = found

-- a rising list begins as another that has the same numbers
same-first : (x y : ℕ) (xs ys : List ℕ) → IsStrictlySortedBy nat_cmp (x ∷ xs) → IsStrictlySortedBy nat_cmp (y ∷ ys)
    → Contains (y ∷ ys) x → Contains (x ∷ xs) y → x ≡ y
same-first x y xs ys rising others there back = by (first-or-rest y ys x there) (first-or-rest x xs y back)
  where
    by : (y ≡ x) ⊎ Contains ys x → (x ≡ y) ⊎ Contains xs y → x ≡ y
    by (inl is) other = sym is
    by (inr found) (inl is) = is
    by (inr found) (inr later) =
        absurd (omega (arith, above-first y ys x others found, above-first x xs y rising later))

-- and behind the first they have the same numbers
same-later : (x y : ℕ) (xs ys : List ℕ) → IsStrictlySortedBy nat_cmp (x ∷ xs) → x ≡ y
    → ((d : ℕ) → Contains (x ∷ xs) d → Contains (y ∷ ys) d) → (d : ℕ) → Contains xs d → Contains ys d
same-later x y xs ys rising is in_them d there = by (first-or-rest y ys d (in_them d (find-more x xs d there)))
  where
    by : (y ≡ d) ⊎ Contains ys d → Contains ys d
    by (inl first) = absurd (omega (arith, is, first, above-first x xs d rising there))
    by (inr found) = found

-- so they are one
same-rising : (xs ys : List ℕ) → IsStrictlySortedBy nat_cmp xs → IsStrictlySortedBy nat_cmp ys
    → ((d : ℕ) → Contains xs d → Contains ys d) → ((d : ℕ) → Contains ys d → Contains xs d) → xs ≡ ys
same-rising [] [] rising others there back = refl
same-rising [] (y ∷ ys) rising others there back = absurd (none-in y (back y (find-first y ys)))
same-rising (x ∷ xs) [] rising others there back = absurd (none-in x (there x (find-first x xs)))
same-rising (x ∷ xs) (y ∷ ys) rising others there back =
    let first : x ≡ y =
    same-first x y xs ys rising others (there x (find-first x xs)) (back y (find-first y ys)) in
    ap (λ (n : ℕ). n ∷ xs) first
    ∙ ap (λ (ns : List ℕ). y ∷ ns)
    (same-rising xs ys (sorted_tail nat_cmp x xs rising) (sorted_tail nat_cmp y ys others)
    (same-later x y xs ys rising first there) (same-later y x ys xs others (sym first) back))

-- what a range touches is one list however it is gathered
pub touched-same : (it : Disposition) (table : Table) (numbers others : List ℕ)
    → Touches (range_of it.first it.last) table numbers → Touches (range_of it.first it.last) table others
    → numbers ≡ others
touched-same it table numbers others a b =
    a.are
    ∙ ap (λ (ds : List ℕ). map (number_at (range_of it.first it.last).first) ds)
    (same-rising a.distances b.distances a.rising b.rising (λ d there. (b.each d).1 ((a.each d).0 there))
    (λ d there. (a.each d).1 ((b.each d).0 there)))
    ∙ sym b.are

-- what a range touches is as long however it is gathered
touched-few : (range : DeliveryRange) (table : Table) (numbers others : List ℕ) → Touches range table numbers
    → Touches range table others → length numbers ≤ length others
touched-few range table numbers others a b =
    let few : length a.distances ≤ length b.distances =
    no-longer a.distances b.distances a.rising b.rising (λ d there. (b.each d).1 ((a.each d).0 there)) in
    omega (
      arith,
      few,
      ap length a.are,
      ap length b.are,
      length-map a.distances (number_at range.first),
      length-map b.distances (number_at range.first),
    )

-- a number begins one run more at most
one-run : (b : Bool) (one : ℕ × ℕ) (run : ℕ × ℕ) (runs : List (ℕ × ℕ)) (other : ℕ × ℕ)
    → length (if b then other ∷ runs else one ∷ run ∷ runs) ≤ length (run ∷ runs) + 1
one-run true one run runs other = omega arith
one-run false one run runs other = omega arith

before-few : (n : ℕ) (runs : List (ℕ × ℕ)) → length (before_run n runs) ≤ length runs + 1
before-few n [] = omega arith
before-few n (run ∷ runs) = one-run ((n + 1) % 2 ^ 32 == run.0) (n, n) run runs (n, run.1)

runs-few : (numbers : List ℕ) → length (runs_of numbers) ≤ length numbers
runs-few [] = omega arith
runs-few (n ∷ ns) = omega (arith, before-few n (runs_of ns), runs-few ns)

module _ {R A T D : Type 0} (gives : Relations R A T D) where
  pub no-more-runs : (old new : State R) (it : Disposition) (runs : List (ℕ × ℕ)) (reached : List Touched)
      → DispositionTaken gives old it (map (echo_of it) runs) new → AreTouched it (table_of it.role old) reached
      → length runs ≤ length reached
  no-more-runs old new it runs reached taken touched =
      let step = taken.stepped in
      let walked =
      walked-bound gives.disposes it (table_of it.role old) step.numbers old.links new.links (echoed taken.walk)
      (record { walk = taken.walk; walked = step.walked; echoes_are = refl }) in
      omega (
        arith,
        ap length step.echoes_are,
        length-map runs (echo_of it),
        length-map (runs_of (echoed taken.walk)) (echo_of it),
        runs-few (echoed taken.walk),
        walked,
        touched-few (range_of it.first it.last) (table_of it.role old) step.numbers (each_number reached) step.touched
            touched.numbers,
        length-map reached (λ (t : Touched). t.number),
      )
