-- Deliveries are forgotten one by one.
use Rattle.std.proofs.Common.{◌≡◌, ◌≢◌, ◌⊎◌, inl, inr, ℕ, zero, suc, List, [], ◌∷◌, ◌++◌, ◌+◌, ◌<◌, ◌^◌, ◌==◌, length, take, get_or, Bool, true, false, cond, not, Option, Some, None, is_some, nat_lt, if◌then◌else◌, ltb-true, Contains, refl, sym, ap, subst, ◌∙◌, All, arith}
use Rattle.std.specs.Prelude.{map}
use Rattle.std.proofs.lemmas.Bool.{false≢true}
use Rattle.std.proofs.lemmas.Bool.Decides.{eqb_tells}
use Rattle.std.proofs.lemmas.List.{take_more, map-append}
use Rattle.std.specs.FinMap as tables
use Rattle.std.proofs.lemmas.List.Elements.{All-map, All-push, All-same, All-weaker, All-contains_itself}
use Rattle.amqp_session_outgoing.specs.Table.{Table, IsUnsettled}
use Rattle.amqp_session_outgoing.specs.Touched.{Touches, number_at}
use Rattle.amqp_session_outgoing.specs.Outside.{names, outside}
use Rattle.amqp_session_outgoing.specs.Range.{ahead, count_of, range_of}
use Rattle.amqp_session_outgoing.specs.declared.range.DeliveryRange.{DeliveryRange}
use Rattle.amqp_session_outgoing.specs.declared.delivery.Delivery.{Delivery}
use Rattle.amqp_session_outgoing.proofs.Lacking.{get-outside, outside-none, settled-more}
use Rattle.amqp_session_types.proofs.Tables.{get-take, same_tables}
use Rattle.amqp_session_outgoing.proofs.Walking.{walked-none, walked-more, walked-past}
use Rattle.amqp_session_core.specs.declared.dispositions.Touched.{Touched as TouchedDelivery}
use Rattle.amqp_session_types.specs.declared.modes.Role.{Role}
use Rattle.amqp_session_types.specs.declared.modes.Role.TheVariants.{Sender, Receiver}
use Rattle.amqp_session_outgoing.specs.Table.{Deliveries}
use Rattle.amqp_session_core.specs.Disposing.{StandsIn, deliveries_of, each_number}
use Rattle.amqp_session_core.specs.State.{State}
use Rattle.amqp_session_core.specs.Steps.{table_of}
use Rattle.amqp_session_core.specs.Echoes.{without}

-- one more is forgotten
pub without-more : (table : Table) (ns : List ℕ) (n : ℕ) → without table (ns ++ n ∷ []) ≡ tables.remove (without table ns) n
without-more table [] n = refl
without-more table (m ∷ ns) n = without-more (tables.remove table m) ns n

-- what a disposition touches is unsettled
pub touched-unsettled : (range : DeliveryRange) (table : Table) (numbers : List ℕ) → Touches range table numbers → All (λ n. IsUnsettled table n) numbers
touched-unsettled range table numbers t =
    All-same (λ n. IsUnsettled table n) numbers (map (number_at range.first) t.distances) t.are
    (All-map (λ n. IsUnsettled table n) (number_at range.first) t.distances
    (All-weaker (Contains t.distances) (λ d. IsUnsettled table (number_at range.first d)) (λ d c. ((t.each d).0 c).1) t.distances (All-contains_itself t.distances)))

-- a loop over numbers goes on by one
pub without-next : (table : Table) (ns : List ℕ) (i : ℕ) → i < length ns → without table (take (i + 1) ns) ≡ tables.remove (without table (take i ns)) (get_or ns i 0)
without-next table ns i lt = ap (λ (xs : List ℕ). without table xs) (take_more ns i 0 lt) ∙ without-more table (take i ns) (get_or ns i 0)

-- the deliveries of a range are forgotten at once as they are one by one
pub record ForgottenEach (range : DeliveryRange) (table : Table) : Type 0 where
  pub numbers : List ℕ
  pub touches : Touches range table numbers
  pub same : outside range table ≡ without table numbers

-- what isn't there is taken out
pub taken-none : (t : Table) (key : ℕ) → tables.get t key ≡ None → tables.remove t key ≡ t
taken-none t key none = same_tables _ _ (λ q. get-take t key q ∙ by q (eqb_tells q key))
  where
    by : (q : ℕ) → (((q == key) ≡ true) × (q ≡ key)) ⊎ (((q == key) ≡ false) × (q ≢ key)) → cond (q == key) None (tables.get t q) ≡ tables.get t q
    by q (inl p) = ap (λ (b : Bool). cond b None (tables.get t q)) p.0 ∙ sym none ∙ ap (λ (k : ℕ). tables.get t k) (sym p.1)
    by q (inr p) = ap (λ (b : Bool). cond b None (tables.get t q)) p.0

either-none : (b : Bool) (o : Option Delivery) → o ≡ None → cond b o None ≡ None
either-none true o e = e
either-none false o e = refl

outside-lacks : (range : DeliveryRange) (table : Table) (n : ℕ) → tables.get table n ≡ None → tables.get (outside range table) n ≡ None
outside-lacks range table n none =
    get-outside range table n ∙ either-none (not (names range n)) (tables.get table n) none

-- a range that is longer by one
forgotten-more : (first count : ℕ) (table : Table) → first < 2 ^ 32 → count < 2 ^ 32 → ForgottenEach (record { first = first; count = count }) table
    → (o : Option Delivery) → tables.get table (number_at first count) ≡ o → ForgottenEach (record { first = first; count = count + 1 }) table
forgotten-more first count table f c before None is =
    record {
      numbers = before.numbers;
      touches = walked-past first count table before.numbers (λ some. false≢true (sym (ap is_some is) ∙ some)) before.touches;
      same =
          sym (settled-more first count table f c)
          ∙ taken-none (outside (record { first = first; count = count }) table) (number_at first count) (outside-lacks (record { first = first; count = count }) table (number_at first count) is)
          ∙ before.same;
    }
forgotten-more first count table f c before (Some d) is =
    record {
      numbers = before.numbers ++ number_at first count ∷ [];
      touches = walked-more first count table before.numbers (ap is_some is) before.touches;
      same =
          sym (settled-more first count table f c)
          ∙ ap (λ (t : Table). tables.remove t (number_at first count)) before.same
          ∙ sym (without-more table before.numbers (number_at first count));
    }

pub forgotten-each : (first : ℕ) (table : Table) (count : ℕ) → first < 2 ^ 32 → count < 2 ^ 32 → ForgottenEach (record { first = first; count = count }) table
forgotten-each first table zero f c = record { numbers = []; touches = walked-none first table; same = outside-none first table }
forgotten-each first table (suc n) f c =
    subst (λ (k : ℕ). ForgottenEach (record { first = first; count = k }) table) (omega arith)
    (forgotten-more first n table f (omega (arith, c)) (forgotten-each first table n f (omega (arith, c))) (tables.get table (number_at first n)) refl)

count-fits : (first last : ℕ) → count_of first last < 2 ^ 32
count-fits first last = by (nat_lt (ahead last first) (2 ^ 31)) refl
  where
    by : (b : Bool) → nat_lt (ahead last first) (2 ^ 31) ≡ b → (if b then ahead last first + 1 else 0) < 2 ^ 32
    by true e = let less : ahead last first < 2 ^ 31 = ltb-true (ahead last first) (2 ^ 31) e in omega (arith, less)
    by false e = omega arith

-- so are those that a disposition names
pub forgotten-named : (first : ℕ) (last : Option ℕ) (table : Table) → first < 2 ^ 32 → ForgottenEach (range_of first last) table
forgotten-named first None table f = forgotten-each first table (count_of first first) f (count-fits first first)
forgotten-named first (Some last) table f = forgotten-each first table (count_of first last) f (count-fits first last)

-- one more delivery is told, with the handle of its link and its tag
pub told-next : (table : Table) (ns : List ℕ) (i : ℕ) (old new : List TouchedDelivery) (t : TouchedDelivery) → i < length ns → t.number ≡ get_or ns i 0 → new ≡ old ++ t ∷ []
    → each_number old ≡ take i ns → each_number new ≡ take (i + 1) ns
told-next table ns i old new t lt is pushed so_far =
    ap each_number pushed
    ∙ map-append (λ (x : TouchedDelivery). x.number) old (t ∷ [])
    ∙ ap (λ (xs : List ℕ). xs ++ t.number ∷ []) so_far
    ∙ ap (λ (n : ℕ). take i ns ++ n ∷ []) is
    ∙ sym (take_more ns i 0 lt)

pub all-told : (table : Table) (old new : List TouchedDelivery) (t : TouchedDelivery) → StandsIn table t → new ≡ old ++ t ∷ [] → All (StandsIn table) old → All (StandsIn table) new
all-told table old new t of pushed all = All-same (StandsIn table) new (old ++ t ∷ []) pushed (All-push (StandsIn table) old t all of)

-- the deliveries of a role are the session's
pub table-is : {R : Type 0} (role : Role) (s : State R) (received : Deliveries) → received.table ≡ s.received → deliveries_of role s.outgoing received ≡ table_of role s
table-is Receiver s received e = refl
table-is Sender s received e = e
