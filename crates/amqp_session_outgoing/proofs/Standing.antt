-- Where the queues of the links stand that wait.
use Rattle.std.proofs.Common.{◌≡◌, ◌≢◌, ◌⊎◌, inl, inr, ℕ, ◌+◌, ◌<◌, ◌≤◌, ◌↔◌, zero, suc, Bool, true, false, true≢false}
use Rattle.std.proofs.Common.{cond, List, [], ◌∷◌, ◌++◌, length, arith, nat_eq, is_some, Option, Some, None, refl, sym}
use Rattle.std.proofs.Common.{ap, subst, ◌∙◌}
use Rattle.std.specs.Prelude.{option_map, slice_index_or, slice_set, unwrap_or, IsSome, if◌then◌else◌, ◌==◌, All}
use Rattle.std.proofs.lemmas.Bool.Decides.{eqb_tells}
use Rattle.slab.specs.Slab.{Slab, get}
use Rattle.amqp_session_outgoing.specs.Queues.{Queues, Absent, Distinct}
use Rattle.amqp_session_outgoing.specs.Fields.{queues_at, queues_of, waiting_at, put_before, handle_at}
use Rattle.amqp_session_outgoing.specs.Fields.{AllWait}
use Rattle.amqp_session_outgoing.specs.Spots.{times, AreNoted}
use Rattle.amqp_session_outgoing.specs.declared.turns.Queue.{Queue}
use Rattle.amqp_session_outgoing.proofs.Joining.{IsPlace, IsNowhere}
use Rattle.amqp_session_outgoing.proofs.Order.{same_or_other, if_same, if_other}

some-is : (a b : ℕ) → Some a ≡ Some b → a ≡ b
some-is a b e = ap (λ (o : Option ℕ). unwrap_or o 0) e

none-is : (a : ℕ) → None ≡ Some a → ⊥
none-is a e = true≢false (sym (ap (λ (o : Option ℕ). is_some o) e))

abbrev pub one-if : Bool → ℕ
one-if b = if b then 1 else 0

times-append : (spot : ℕ) (xs ys : List ℕ) → times spot (xs ++ ys) ≡ times spot xs + times spot ys
times-append spot [] ys = omega arith
times-append spot (x ∷ xs) ys = omega (arith, times-append spot xs ys)

times-here : (spot first : ℕ) (turn : List ℕ) → first ≡ spot → times spot (first ∷ turn) ≡ 1 + times spot turn
times-here spot first turn e =
    let one : one-if (first == spot) ≡ 1 = if_same first spot 1 0 e in
    omega (arith, one)

times-other : (spot first : ℕ) (turn : List ℕ) → first ≢ spot → times spot (first ∷ turn) ≡ times spot turn
times-other spot first turn n =
    let none : one-if (first == spot) ≡ 0 = if_other first spot 1 0 n in
    omega (arith, none)

-- a spot that goes to the end stands in the turn as often
pub times-turned : (spot first : ℕ) (turn : List ℕ) → times spot (turn ++ first ∷ []) ≡ times spot (first ∷ turn)
times-turned spot first turn = omega (arith, times-append spot turn (first ∷ []))

-- what is noted somewhere at one key and elsewhere as before
module _ {X : Type 0} (old new : ℕ → Option X) (key : ℕ) (at : Option X)
    (is : (other : ℕ) → new other ≡ cond (nat_eq key other) at (old other)) where
  noted-at : (other : ℕ) → key ≡ other → new other ≡ at
  noted-at other e = elim (eqb_tells key other) [
    | inl p ↦ is other ∙ ap (λ (b : Bool). cond b at (old other)) p.0
    | inr p ↦ absurd (p.1 e)
  ]

  noted-other : (other : ℕ) → key ≢ other → new other ≡ old other
  noted-other other n = elim (eqb_tells key other) [
    | inl p ↦ absurd (n p.1)
    | inr p ↦ is other ∙ ap (λ (b : Bool). cond b at (old other)) p.0
  ]

-- nothing is noted where no link waits
pub noted-none : (h n : ℕ → Option ℕ) → ((spot : ℕ) → h spot ≡ None) → ((handle : ℕ) → n handle ≡ None)
    → AreNoted h [] n
noted-none h n vacant none =
    record {
      once = λ spot. ap (λ (o : Option ℕ). one-if (is_some o)) (sym (vacant spot));
      each = λ spot handle e. absurd (none-is handle (sym (vacant spot) ∙ e));
      only = λ spot handle e. absurd (none-is spot (sym (none handle) ∙ e));
    }

-- the same is noted
pub noted-same : (h now n m : ℕ → Option ℕ) (turn later : List ℕ) → ((spot : ℕ) → now spot ≡ h spot)
    → ((spot : ℕ) → times spot later ≡ times spot turn) → ((handle : ℕ) → m handle ≡ n handle)
    → AreNoted h turn n → AreNoted now later m
noted-same h now n m turn later same often told a =
    record {
      once = λ spot. often spot ∙ a.once spot ∙ ap (λ (o : Option ℕ). one-if (is_some o)) (sym (same spot));
      each = λ spot handle e. told handle ∙ a.each spot handle (sym (same spot) ∙ e);
      only = λ spot handle e. same spot ∙ a.only spot handle (sym (told handle) ∙ e);
    }

one-at-most : (b : Bool) → one-if b ≤ 1
one-at-most true = omega arith
one-at-most false = omega arith

-- the first spot of the turn doesn't stand in the rest
pub times-behind : (h : ℕ → Option ℕ) (spot : ℕ) (rest : List ℕ) (n : ℕ → Option ℕ) → AreNoted h (spot ∷ rest) n
    → times spot rest ≡ 0
times-behind h spot rest n a =
    omega (arith, times-here spot spot rest refl, a.once spot, one-at-most (is_some (h spot)))

-- a spot of the turn
times-some : (turn : List ℕ) (k d : ℕ) → k < length turn → 0 < times (slice_index_or turn k d) turn
times-some [] k d lt = absurd (omega (arith, lt))
times-some (first ∷ turn) zero d lt = omega (arith, times-here first first turn refl)
times-some (first ∷ turn) (suc k) d lt =
    let some : 0 < times (slice_index_or turn k d) turn = times-some turn k d (omega (arith, lt)) in
    omega (arith, some)

-- a link joins the turn at a spot that was vacant
module _ (h now n m : ℕ → Option ℕ) (turn : List ℕ) (spot key : ℕ) (a : AreNoted h turn n) (vacant : h spot ≡ None)
    (unknown : n key ≡ None) (here : now spot ≡ Some key) (others : (s : ℕ) → s ≢ spot → now s ≡ h s)
    (told : (other : ℕ) → m other ≡ cond (nat_eq key other) (Some spot) (n other)) where
  joined-once : (s : ℕ) → times s (turn ++ spot ∷ []) ≡ one-if (is_some (now s))
  joined-once s = elim (same_or_other spot s) [
    | inl e ↦
        let before : times s turn ≡ 0 = a.once s ∙ ap (λ (x : ℕ). one-if (is_some (h x))) (sym e)
        ∙ ap (λ (o : Option ℕ). one-if (is_some o)) vacant in
        let after : one-if (is_some (now s)) ≡ 1 = ap (λ (x : ℕ). one-if (is_some (now x))) (sym e)
        ∙ ap (λ (o : Option ℕ). one-if (is_some o)) here in
        omega (arith, before, after, times-append s turn (spot ∷ []), times-here s spot [] e)
    | inr ne ↦
        let same : one-if (is_some (now s)) ≡ one-if (is_some (h s)) =
        ap (λ (o : Option ℕ). one-if (is_some o)) (others s (λ e. ne (sym e))) in
        omega (arith, a.once s, same, times-append s turn (spot ∷ []), times-other s spot [] ne)
  ]

  joined-each : (s handle : ℕ) → now s ≡ Some handle → m handle ≡ Some s
  joined-each s handle e = elim (same_or_other s spot) [
    | inl i ↦
        let same : key ≡ handle = some-is key handle (sym here ∙ ap (λ (x : ℕ). now x) (sym i) ∙ e) in
        noted-at n m key (Some spot) told handle same ∙ ap (λ (x : ℕ). Some x) (sym i)
    | inr o ↦
        let was : n handle ≡ Some s = a.each s handle (sym (others s o) ∙ e) in
        let apart : key ≢ handle = λ i. none-is s (sym unknown ∙ ap (λ (x : ℕ). n x) i ∙ was) in
        noted-other n m key (Some spot) told handle apart ∙ was
  ]

  joined-only : (s handle : ℕ) → m handle ≡ Some s → now s ≡ Some handle
  joined-only s handle e = elim (same_or_other key handle) [
    | inl i ↦
        let same : spot ≡ s = some-is spot s (sym (noted-at n m key (Some spot) told handle i) ∙ e) in
        ap (λ (x : ℕ). now x) (sym same) ∙ here ∙ ap (λ (x : ℕ). Some x) i
    | inr o ↦
        let was : h s ≡ Some handle =
        a.only s handle (sym (noted-other n m key (Some spot) told handle o) ∙ e) in
        let apart : s ≢ spot = λ i. none-is handle (sym vacant ∙ ap (λ (x : ℕ). h x) (sym i) ∙ was) in
        others s apart ∙ was
  ]

  pub noted-joined : AreNoted now (turn ++ spot ∷ []) m
  noted-joined = record { once = joined-once; each = joined-each; only = joined-only }

-- spots that stand in a turn once stand in its rest once at most
once-rest : (first : ℕ) (turn : List ℕ) → ((s : ℕ) → times s (first ∷ turn) ≤ 1) → (s : ℕ) → times s turn ≤ 1
once-rest first turn once s = by (same_or_other first s)
  where
    by : (first ≡ s) ⊎ (first ≢ s) → times s turn ≤ 1
    by (inl e) = omega (arith, once s, times-here s first turn e)
    by (inr n) = omega (arith, once s, times-other s first turn n)

module _ {T F : Type 0} where
  pub queue-is : (a b : Queue T F) → Some a ≡ Some b → a ≡ b
  queue-is a b e = ap (λ (o : Option (Queue T F)). unwrap_or o a) e

  -- a spot that isn't vacant has a queue
  pub queue-of : (slab : Slab (Queue T F)) (spot : ℕ) → IsSome (get slab spot)
      → (q : Queue T F) × (get slab spot ≡ Some q)
  queue-of slab spot some = by (get slab spot) refl
    where
      by : (found : Option (Queue T F)) → get slab spot ≡ found → (q : Queue T F) × (get slab spot ≡ Some q)
      by None e = absurd (true≢false (sym some ∙ ap (λ (o : Option (Queue T F)). is_some o) e))
      by (Some q) e = (q, e)

  before-append : (found : Option (Queue T F)) (xs ys : List (Queue T F))
      → put_before found (xs ++ ys) ≡ put_before found xs ++ ys
  before-append None xs ys = refl
  before-append (Some q) xs ys = refl

  queues-append : (slab : Slab (Queue T F)) (xs ys : List ℕ)
      → queues_at slab (xs ++ ys) ≡ queues_at slab xs ++ queues_at slab ys
  queues-append slab [] ys = refl
  queues-append slab (x ∷ xs) ys =
      ap (λ (qs : List (Queue T F)). put_before (get slab x) qs) (queues-append slab xs ys)
      ∙ before-append (get slab x) (queues_at slab xs) (queues_at slab ys)

  pub queues-first : (slab : Slab (Queue T F)) (spot : ℕ) (turn : List ℕ) (q : Queue T F) → get slab spot ≡ Some q
      → queues_at slab (spot ∷ turn) ≡ q ∷ queues_at slab turn
  queues-first slab spot turn q e = ap (λ (o : Option (Queue T F)). put_before o (queues_at slab turn)) e

  pub queues-push : (slab : Slab (Queue T F)) (spot : ℕ) (turn : List ℕ) (q : Queue T F) → get slab spot ≡ Some q
      → queues_at slab (turn ++ spot ∷ []) ≡ queues_at slab turn ++ q ∷ []
  queues-push slab spot turn q e =
      queues-append slab turn (spot ∷ [])
      ∙ ap (λ (qs : List (Queue T F)). queues_at slab turn ++ qs) (queues-first slab spot [] q e)

  -- queues at other spots stay
  pub queues-others : (old new : Slab (Queue T F)) (spot : ℕ) (turn : List ℕ) → times spot turn ≡ 0
      → ((s : ℕ) → s ≢ spot → get new s ≡ get old s) → queues_at new turn ≡ queues_at old turn
  queues-others old new spot [] none others = refl
  queues-others old new spot (x ∷ turn) none others = elim (same_or_other x spot) [
    | inl e ↦ absurd (omega (arith, none, times-here spot x turn e))
    | inr ne ↦
        ap (λ (o : Option (Queue T F)). put_before o (queues_at new turn)) (others x ne)
        ∙ ap (λ (qs : List (Queue T F)). put_before (get old x) qs)
        (queues-others old new spot turn (omega (arith, none, times-other spot x turn ne)) others)
  ]

  -- where in the turn a queue stands that stands at a spot
  pub record StandsAt (slab : Slab (Queue T F)) (turn : List ℕ) (handle spot : ℕ) : Type 0 where
    pub index : ℕ
    pub place : IsPlace (queues_at slab turn) handle index
    pub here : (d : Queue T F) → get slab spot ≡ Some (slice_index_or (queues_at slab turn) index d)
    pub changes : (new : Slab (Queue T F)) (q : Queue T F) → get new spot ≡ Some q
        → ((s : ℕ) → s ≢ spot → get new s ≡ get slab s)
        → queues_at new turn ≡ slice_set (queues_at slab turn) index q

  -- at other spots stand queues of other links
  abbrev OthersStand : Slab (Queue T F) → List ℕ → ℕ → ℕ → Type 0
  OthersStand slab turn handle spot =
      (s : ℕ) → 0 < times s turn → s ≢ spot → (x : Queue T F) × (get slab s ≡ Some x) × ((x.handle).0 ≢ handle)

  others-rest : (slab : Slab (Queue T F)) (first : ℕ) (turn : List ℕ) (handle spot : ℕ)
      → OthersStand slab (first ∷ turn) handle spot → OthersStand slab turn handle spot
  others-rest slab first turn handle spot o = λ s some ne. o s (more s some (same_or_other first s)) ne
    where
      more : (s : ℕ) → 0 < times s turn → (first ≡ s) ⊎ (first ≢ s) → 0 < times s (first ∷ turn)
      more s some (inl e) = omega (arith, some, times-here s first turn e)
      more s some (inr n) = omega (arith, some, times-other s first turn n)

  stands-first : (slab : Slab (Queue T F)) (turn : List ℕ) (handle spot : ℕ) (q : Queue T F) → get slab spot ≡ Some q
      → (q.handle).0 ≡ handle → times spot turn ≡ 0 → StandsAt slab (spot ∷ turn) handle spot
  stands-first slab turn handle spot q found link none =
      let items : queues_at slab (spot ∷ turn) ≡ q ∷ queues_at slab turn = queues-first slab spot turn q found in
      record {
        index = 0;
        place =
            record {
              within = subst (λ (qs : List (Queue T F)). 0 < length qs) (sym items) (omega arith);
              before = λ k d lt same. absurd (omega (arith, lt));
              found = q;
              here = ap (λ (qs : List (Queue T F)). ((slice_index_or qs 0 q).handle).0) items ∙ link;
            };
        here = λ d. found ∙ ap (λ (qs : List (Queue T F)). Some (slice_index_or qs 0 d)) (sym items);
        changes = λ new x is others.
            queues-first new spot turn x is
            ∙ ap (λ (qs : List (Queue T F)). x ∷ qs) (queues-others slab new spot turn none others)
            ∙ ap (λ (qs : List (Queue T F)). slice_set qs 0 x) (sym items);
      }

  stands-behind : (slab : Slab (Queue T F)) (first : ℕ) (turn : List ℕ) (handle spot : ℕ) (x : Queue T F)
      → get slab first ≡ Some x → (x.handle).0 ≢ handle → first ≢ spot → StandsAt slab turn handle spot
      → StandsAt slab (first ∷ turn) handle spot
  stands-behind slab first turn handle spot x found other ne st =
      let items : queues_at slab (first ∷ turn) ≡ x ∷ queues_at slab turn = queues-first slab first turn x found in
      record {
        index = suc st.index;
        place =
            subst (λ (qs : List (Queue T F)). IsPlace qs handle (suc st.index)) (sym items)
            (record {
              within = omega (arith, st.place.within);
              before = earlier;
              found = st.place.found;
              here = st.place.here;
            });
        here = λ d. st.here d ∙ ap (λ (qs : List (Queue T F)). Some (slice_index_or qs (suc st.index) d)) (sym items);
        changes = λ new q is others.
            queues-first new first turn x (others first ne ∙ found)
            ∙ ap (λ (qs : List (Queue T F)). x ∷ qs) (st.changes new q is others)
            ∙ ap (λ (qs : List (Queue T F)). slice_set qs (suc st.index) q) (sym items);
      }
    where
      earlier : (k : ℕ) (d : Queue T F) → k < suc st.index
          → ((slice_index_or (x ∷ queues_at slab turn) k d).handle).0 ≢ handle
      earlier zero d lt = other
      earlier (suc k) d lt = st.place.before k d (omega (arith, lt))

  stands : (slab : Slab (Queue T F)) (turn : List ℕ) (handle spot : ℕ) (q : Queue T F) → get slab spot ≡ Some q
      → (q.handle).0 ≡ handle → times spot turn ≡ 1 → OthersStand slab turn handle spot
      → StandsAt slab turn handle spot
  stands slab [] handle spot q found link once others = absurd (omega (arith, once))
  stands slab (first ∷ turn) handle spot q found link once others = elim (same_or_other first spot) [
    | inl e ↦
        subst (λ (f : ℕ). StandsAt slab (f ∷ turn) handle spot) (sym e)
        (stands-first slab turn handle spot q found link (omega (arith, once, times-here spot first turn e)))
    | inr ne ↦
        let x = others first (omega (arith, times-here first first turn refl)) ne in
        stands-behind slab first turn handle spot x.0 x.1 x.2 ne
        (stands slab turn handle spot q found link (omega (arith, once, times-other spot first turn ne))
        (others-rest slab first turn handle spot others))
  ]

  -- a queue that stands in the turn
  in-turn : (slab : Slab (Queue T F)) (turn : List ℕ) (n : ℕ → Option ℕ) (s : ℕ) → AreNoted (handle_at slab) turn n
      → 0 < times s turn → (x : Queue T F) × (get slab s ≡ Some x) × (n (x.handle).0 ≡ Some s)
  in-turn slab turn n s a some = by (get slab s) refl
    where
      by : (found : Option (Queue T F)) → get slab s ≡ found
          → (x : Queue T F) × (get slab s ≡ Some x) × (n (x.handle).0 ≡ Some s)
      by None e =
          let none : times s turn ≡ 0 = a.once s
          ∙ ap (λ (o : Option (Queue T F)). one-if (is_some (option_map (λ (q : Queue T F). (q.handle).0) o))) e in
          absurd (omega (arith, some, none))
      by (Some x) e = (
        x,
        e,
        a.each s (x.handle).0
            (ap (λ (o : Option (Queue T F)). option_map (λ (q : Queue T F). (q.handle).0) o) e),
      )

  at-handle : (found : Option (Queue T F)) (handle : ℕ)
      → option_map (λ (q : Queue T F). (q.handle).0) found ≡ Some handle
      → (q : Queue T F) × (found ≡ Some q) × ((q.handle).0 ≡ handle)
  at-handle None handle e = absurd (none-is handle e)
  at-handle (Some q) handle e = (q, refl, some-is (q.handle).0 handle e)

  -- a link stands at the spot that is noted for it
  pub noted-stands : (slab : Slab (Queue T F)) (turn : List ℕ) (n : ℕ → Option ℕ) (handle spot : ℕ)
      → AreNoted (handle_at slab) turn n → Some spot ≡ n handle → StandsAt slab turn handle spot
  noted-stands slab turn n handle spot a told =
      let at = a.only spot handle (sym told) in
      let q = at-handle (get slab spot) handle at in
      stands slab turn handle spot q.0 q.1 q.2
      (a.once spot ∙ ap (λ (o : Option ℕ). one-if (is_some o)) at)
      (λ s some ne.
      let x = in-turn slab turn n s a some in
      (x.0, x.1, λ same. ne (some-is s spot (sym x.2 ∙ ap (λ (y : ℕ). n y) same ∙ sym told))))

  pub noted-there : (slab : Slab (Queue T F)) (turn : List ℕ) (n : ℕ → Option ℕ) (handle spot : ℕ)
      → AreNoted (handle_at slab) turn n → Some spot ≡ n handle → IsSome (get slab spot)
  noted-there slab turn n handle spot a told =
      let q = at-handle (get slab spot) handle (a.only spot handle (sym told)) in
      ap (λ (o : Option (Queue T F)). is_some o) q.1

  nowhere : (slab : Slab (Queue T F)) (turn : List ℕ) (handle : ℕ)
      → ((s : ℕ) → 0 < times s turn → (x : Queue T F) × (get slab s ≡ Some x) × ((x.handle).0 ≢ handle))
      → IsNowhere (queues_at slab turn) handle
  nowhere slab [] handle apart = record { other = λ k d lt same. absurd (omega (arith, lt)) }
  nowhere slab (first ∷ turn) handle apart =
      let x = apart first (omega (arith, times-here first first turn refl)) in
      let rest = nowhere slab turn handle (λ s some. apart s (more s some (same_or_other first s))) in
      subst (λ (qs : List (Queue T F)). IsNowhere qs handle) (sym (queues-first slab first turn x.0 x.1))
      (record { other = λ k d lt. by x.0 x.2 rest k d lt })
    where
      more : (s : ℕ) → 0 < times s turn → (first ≡ s) ⊎ (first ≢ s) → 0 < times s (first ∷ turn)
      more s some (inl e) = omega (arith, some, times-here s first turn e)
      more s some (inr n) = omega (arith, some, times-other s first turn n)

      by : (x : Queue T F) → (x.handle).0 ≢ handle → IsNowhere (queues_at slab turn) handle → (k : ℕ) (d : Queue T F)
          → k < length (x ∷ queues_at slab turn)
          → ((slice_index_or (x ∷ queues_at slab turn) k d).handle).0 ≢ handle
      by x ne rest zero d lt = ne
      by x ne rest (suc k) d lt = rest.other k d (omega (arith, lt))

  -- a link of which no spot is noted stands nowhere
  pub noted-nowhere : (slab : Slab (Queue T F)) (turn : List ℕ) (n : ℕ → Option ℕ) (handle : ℕ)
      → AreNoted (handle_at slab) turn n → None ≡ n handle → IsNowhere (queues_at slab turn) handle
  noted-nowhere slab turn n handle a none =
      nowhere slab turn handle
      (λ s some.
      let x = in-turn slab turn n s a some in
      (x.0, x.1, λ same. none-is s (none ∙ ap (λ (y : ℕ). n y) (sym same) ∙ x.2)))

  -- at each spot of the turn stands a queue whose link has it noted
  abbrev EachNoted : Slab (Queue T F) → List ℕ → (ℕ → Option ℕ) → Type 0
  EachNoted slab turn n =
      (s : ℕ) → 0 < times s turn → (x : Queue T F) × (get slab s ≡ Some x) × (n (x.handle).0 ≡ Some s)

  noted-rest : (slab : Slab (Queue T F)) (first : ℕ) (turn : List ℕ) (n : ℕ → Option ℕ)
      → EachNoted slab (first ∷ turn) n → EachNoted slab turn n
  noted-rest slab first turn n each = λ s some. each s (more s some (same_or_other first s))
    where
      more : (s : ℕ) → 0 < times s turn → (first ≡ s) ⊎ (first ≢ s) → 0 < times s (first ∷ turn)
      more s some (inl e) = omega (arith, some, times-here s first turn e)
      more s some (inr n) = omega (arith, some, times-other s first turn n)

  -- a link stands at no spot but its own
  absent-behind : (slab : Slab (Queue T F)) (turn : List ℕ) (n : ℕ → Option ℕ) (spot handle : ℕ)
      → EachNoted slab turn n → n handle ≡ Some spot → times spot turn ≡ 0 → Absent handle (waiting_at slab turn)
  absent-behind slab [] n spot handle each told none = tt
  absent-behind slab (s ∷ turn) n spot handle each told none =
      let x = each s (omega (arith, times-here s s turn refl)) in
      let other : s ≢ spot = λ e. absurd (omega (arith, none, times-here spot s turn e)) in
      subst (λ (qs : List (Queue T F)). Absent handle (queues_of qs)) (sym (queues-first slab s turn x.0 x.1)) (
        λ same. other (some-is s spot (sym x.2 ∙ ap (λ (y : ℕ). n y) same ∙ told)),
        absent-behind slab turn n spot handle (noted-rest slab s turn n each) told
            (omega (arith, none, times-other spot s turn other)),
      )

  each-apart : (slab : Slab (Queue T F)) (turn : List ℕ) (n : ℕ → Option ℕ) → EachNoted slab turn n
      → ((s : ℕ) → times s turn ≤ 1) → Distinct (waiting_at slab turn)
  each-apart slab [] n each once = tt
  each-apart slab (first ∷ turn) n each once =
      let x = each first (omega (arith, times-here first first turn refl)) in
      let none : times first turn ≡ 0 = omega (arith, once first, times-here first first turn refl) in
      subst (λ (qs : List (Queue T F)). Distinct (queues_of qs)) (sym (queues-first slab first turn x.0 x.1)) (
        absent-behind slab turn n first (x.0.handle).0 (noted-rest slab first turn n each) x.2 none,
        each-apart slab turn n (noted-rest slab first turn n each) (once-rest first turn once),
      )

  -- each link that waits stands in the turn once
  pub noted-apart : (slab : Slab (Queue T F)) (turn : List ℕ) (n : ℕ → Option ℕ) → AreNoted (handle_at slab) turn n
      → Distinct (waiting_at slab turn)
  noted-apart slab turn n a =
      each-apart slab turn n (λ s some. in-turn slab turn n s a some)
      (λ s. omega (arith, a.once s, one-at-most (is_some (handle_at slab s))))

  -- each spot of the turn has a queue
  pub all-stand : (slab : Slab (Queue T F)) (turn : List ℕ) (n : ℕ → Option ℕ) → AreNoted (handle_at slab) turn n
      → All (λ (spot : ℕ). IsSome (get slab spot)) turn
  all-stand slab turn n a k d lt =
      let x = in-turn slab turn n (slice_index_or turn k d) a (times-some turn k d lt) in
      ap (λ (o : Option (Queue T F)). is_some o) x.1

  -- no link waits where the turn is empty
  pub none-stand : (slab : Slab (Queue T F)) (turn : List ℕ) (n : ℕ → Option ℕ) (queues : Queues T F)
      → AreNoted (handle_at slab) turn n → waiting_at slab turn ≡ queues → (length turn ≡ 0) ↔ (queues ≡ [])
  none-stand slab [] n queues a view = (λ e. sym view, λ e. refl)
  none-stand slab (spot ∷ turn) n queues a view =
      let x = in-turn slab (spot ∷ turn) n spot a (omega (arith, times-here spot spot turn refl)) in
      let first = ap (λ (qs : List (Queue T F)). length (queues_of qs)) (queues-first slab spot turn x.0 x.1) in (
        λ e. absurd (omega (arith, e)),
        λ e. absurd (omega (arith, first, ap (λ (qs : Queues T F). length qs) (view ∙ e))),
      )

  -- what stands at the spots stays where the slots do
  queues-same : (old new : Slab (Queue T F)) (turn : List ℕ) → new.slots ≡ old.slots
      → queues_at new turn ≡ queues_at old turn
  queues-same old new [] same = refl
  queues-same old new (spot ∷ turn) same =
      ap (λ (qs : List (Option (Queue T F))). put_before (slice_index_or qs spot None) (queues_at new turn)) same
      ∙ ap (λ (qs : List (Queue T F)). put_before (get old spot) qs) (queues-same old new turn same)

  pub same-waiting : (old new : Slab (Queue T F)) (turn : List ℕ) → new.slots ≡ old.slots
      → waiting_at new turn ≡ waiting_at old turn
  same-waiting old new turn same = ap (λ (qs : List (Queue T F)). queues_of qs) (queues-same old new turn same)

  pub same-waits : (old new : Slab (Queue T F)) → new.slots ≡ old.slots → AllWait old → AllWait new
  same-waits old new same w =
      record {
        some = λ spot q e.
            w.some spot q (sym (ap (λ (qs : List (Option (Queue T F))). slice_index_or qs spot None) same) ∙ e);
      }

  pub same-noted : (old new : Slab (Queue T F)) (turn : List ℕ) (n m : ℕ → Option ℕ) → new.slots ≡ old.slots
      → ((handle : ℕ) → m handle ≡ n handle) → AreNoted (handle_at old) turn n → AreNoted (handle_at new) turn m
  same-noted old new turn n m same told a =
      noted-same (handle_at old) (handle_at new) n m turn turn
      (λ s.
      ap (λ (qs : List (Option (Queue T F))). option_map (λ (q : Queue T F). (q.handle).0) (slice_index_or qs s None))
      same)
      (λ s. refl) told a

pub ruleset rules = (noted-none, noted-same, same-waiting, same-waits, same-noted)
