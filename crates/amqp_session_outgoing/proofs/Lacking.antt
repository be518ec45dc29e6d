-- What is left without the deliveries of a range.
use Rattle.std.proofs.Common.{◌≡◌, ◌≢◌, ℕ, ◌+◌, ◌<◌, ◌≤◌, ◌^◌, ◌⊎◌, inl, inr, Bool, true, false, cond, not, ◌&&◌, ◌==◌, List, filter, nat_eq, nat_lt, Option, None, sym, ap, ◌∙◌, arith, lt-ltb, le-ltb, ltb-true, IsTrue, ◌↔◌}
use Rattle.std.proofs.Math.Bool.{and-false}
use Rattle.std.proofs.lemmas.Bool.Decides.{eqb_tells}
use Rattle.std.specs.Ordering.{nat_cmp}
use Rattle.std.specs.FinMap as map
use Rattle.std.specs.FinMap.{nat_cmp-IsAntisymmetric, get-retain_keys}
use Rattle.std.specs.Map.{lookup}
use Rattle.std.proofs.lemmas.Map.Entries.{lookup-filter-keys}
use Rattle.amqp_session_outgoing.specs.Range.{ahead, Names}
use Rattle.amqp_session_outgoing.specs.Table.{Table}
use Rattle.amqp_session_outgoing.specs.Touched.{number_at}
use Rattle.amqp_session_outgoing.specs.Outside.{names, outside}
use Rattle.amqp_session_outgoing.specs.declared.range.DeliveryRange.{DeliveryRange}
use Rattle.amqp_session_outgoing.specs.declared.delivery.Delivery.{Delivery}
use Rattle.amqp_session_types.proofs.Tables.{get-entries, get-take, same_tables}

-- what a table has without the deliveries of a range
pub get-outside : (range : DeliveryRange) (table : Table) (number : ℕ) → map.get (outside range table) number ≡ cond (not (names range number)) (map.get table number) None
get-outside range table number = get-retain_keys table (λ (n : ℕ). not (names range n)) number (λ n e. ap (λ (k : ℕ). not (names range k)) (sym (nat_cmp-IsAntisymmetric number n e)))

-- an empty range names nothing
pub outside-none : (first : ℕ) (table : Table) → outside (record { first = first; count = 0 }) table ≡ table
outside-none first table =
    same_tables _ _ (λ number.
    get-outside (record { first = first; count = 0 }) table number
    ∙ ap (λ (b : Bool). cond (not b) (map.get table number) None) (ap (λ (b : Bool). nat_lt number (2 ^ 32) && b) (le-ltb (ahead number first) 0 (omega arith)) ∙ and-false (nat_lt number (2 ^ 32))))

small_or_not : (n : ℕ) → (n < 2 ^ 32) ⊎ (2 ^ 32 ≤ n)
small_or_not n = grind arith

below_or_not : (a b : ℕ) → (a < b) ⊎ (b ≤ a)
below_or_not a b = grind arith

same_below : (a b : ℕ) → a ≢ b → nat_lt a (b + 1) ≡ nat_lt a b
same_below a b n = by (below_or_not a b)
  where
    by : (a < b) ⊎ (b ≤ a) → nat_lt a (b + 1) ≡ nat_lt a b
    by (inl less) = lt-ltb a (b + 1) (omega (arith, less)) ∙ sym (lt-ltb a b less)
    by (inr more) = le-ltb a (b + 1) (omega (arith, more, n)) ∙ sym (le-ltb a b more)

-- a range that is longer by one names one number more
names-here : (first count : ℕ) → first < 2 ^ 32 → count < 2 ^ 32 → names (record { first = first; count = count + 1 }) (number_at first count) ≡ true
names-here first count f c =
    let small : number_at first count < 2 ^ 32 = omega (arith, f, c) in
    let ahead_is : ahead (number_at first count) first < count + 1 = omega (arith, f, c) in
    ap (λ (b : Bool). b && nat_lt (ahead (number_at first count) first) (count + 1)) (lt-ltb (number_at first count) (2 ^ 32) small)
    ∙ lt-ltb (ahead (number_at first count) first) (count + 1) ahead_is

names-other : (first count number : ℕ) → first < 2 ^ 32 → count < 2 ^ 32 → number ≢ number_at first count
    → names (record { first = first; count = count + 1 }) number ≡ names (record { first = first; count = count }) number
names-other first count number f c n = by (small_or_not number)
  where
    by : (number < 2 ^ 32) ⊎ (2 ^ 32 ≤ number) → names (record { first = first; count = count + 1 }) number ≡ names (record { first = first; count = count }) number
    by (inl small) = ap (λ (b : Bool). nat_lt number (2 ^ 32) && b) (same_below (ahead number first) count (λ e. n (omega (arith, f, small, e))))
    by (inr large) =
        ap (λ (b : Bool). b && nat_lt (ahead number first) (count + 1)) (le-ltb number (2 ^ 32) large)
        ∙ sym (ap (λ (b : Bool). b && nat_lt (ahead number first) count) (le-ltb number (2 ^ 32) large))

-- one number more is taken out
pub settled-more : (first count : ℕ) (table : Table) → first < 2 ^ 32 → count < 2 ^ 32
    → map.remove (outside (record { first = first; count = count }) table) (number_at first count) ≡ outside (record { first = first; count = count + 1 }) table
settled-more first count table f c = same_tables _ _ (λ number.
    get-take (outside (record { first = first; count = count }) table) (number_at first count) number
    ∙ ap (λ (o : Option Delivery). cond (number == number_at first count) None o) (get-outside (record { first = first; count = count }) table number)
    ∙ by number
    ∙ sym (get-outside (record { first = first; count = count + 1 }) table number))
  where
    by : (number : ℕ) → cond (number == number_at first count) None (cond (not (names (record { first = first; count = count }) number)) (map.get table number) None)
        ≡ cond (not (names (record { first = first; count = count + 1 }) number)) (map.get table number) None
    by number = elim (eqb_tells number (number_at first count)) [
      | inl p ↦
          ap (λ (b : Bool). cond b None (cond (not (names (record { first = first; count = count }) number)) (map.get table number) None)) p.0
          ∙ sym (ap (λ (b : Bool). cond (not b) (map.get table number) None) (ap (λ (n : ℕ). names (record { first = first; count = count + 1 }) n) p.1 ∙ names-here first count f c))
      | inr p ↦
          ap (λ (b : Bool). cond b None (cond (not (names (record { first = first; count = count }) number)) (map.get table number) None)) p.0
          ∙ sym (ap (λ (b : Bool). cond (not b) (map.get table number) None) (names-other first count number f c p.1))
    ]

-- what is kept of a map's entries
pub outside-kept : (es kept : List (ℕ × Delivery)) (range : DeliveryRange) → kept ≡ filter (λ e. not (names range e.0)) es → map.from_entries {R = nat_cmp} kept ≡ outside range (map.from_entries es)
outside-kept es kept range are = same_tables _ _ (λ number.
    get-entries kept number
    ∙ ap (λ (xs : List (ℕ × Delivery)). lookup (nat_eq number) xs) are
    ∙ lookup-filter-keys (nat_eq number) (λ (n : ℕ). not (names range n)) (not (names range number)) (λ n e. ap (λ (k : ℕ). not (names range k)) (sym (same number n e))) es
    ∙ ap (λ (o : Option Delivery). cond (not (names range number)) o None) (sym (get-entries es number))
    ∙ sym (get-outside range (map.from_entries es) number))
  where
    same : (x y : ℕ) → (x == y) ≡ true → x ≡ y
    same x y e = elim (eqb_tells x y) [ inl p ↦ p.1 | inr p ↦ absurd (differ (sym e ∙ p.0)) ]
      where
        differ : true ≡ false → ⊥
        differ e = absurd cc

-- the test of a delivery number
pub names-iff : (range : DeliveryRange) (number : ℕ) → number < 2 ^ 32 → IsTrue (names range number) ↔ Names range number
names-iff range number small = (
  (λ is. ltb-true (ahead number range.first) range.count (sym is_test ∙ is)),
  (λ is. is_test ∙ lt-ltb (ahead number range.first) range.count is),
)
  where
    is_test : names range number ≡ nat_lt (ahead number range.first) range.count
    is_test = ap (λ (b : Bool). b && nat_lt (ahead number range.first) range.count) (lt-ltb number (2 ^ 32) small)
