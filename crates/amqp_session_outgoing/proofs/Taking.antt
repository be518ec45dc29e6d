-- Links that wait take turns.
use Rattle.std.proofs.Common.{◌≡◌, ◌≢◌, ℕ, ◌+◌, List, [], ◌∷◌, ◌++◌, length, refl, sym, ◌∙◌, ap, subst, arith, length-append, Bool, true, false, ◌⊎◌, inl, inr, Some, None}
use Rattle.std.specs.Prelude.{◌==◌, if◌then◌else◌}
use Rattle.std.proofs.lemmas.Grind.{common_steps}
use Rattle.amqp_session_outgoing.specs.Queues.{Queues, TakesTurn, TakesTurnOf, rejoined, joined, followed, trailed, units_of}
use Rattle.amqp_session_outgoing.specs.State.{State, Leaves, with_batch, with_window}
use Rattle.amqp_session_outgoing.specs.History.{Act, Step, History, TakesWindow, SetsWindow, Accepts, Refuses}
use Rattle.amqp_session_outgoing.specs.History.{Follows, Reserves, Settles, SettlesRange, Forgets, Fails}
use Rattle.amqp_session_outgoing.specs.Turns.{Event, In, Behind, Out, outs, events_in, events_of, accepted_count, turns_of, Waits, WaitsThroughout, Successive}
use Rattle.amqp_session_outgoing.specs.declared.frames.Outbound.{Outbound}
use Rattle.amqp_session_outgoing.specs.declared.frames.Sent.{Sent}
use Rattle.amqp_session_outgoing.proofs.Order.{Absent, Distinct, turn-units, turn-distinct, joined-distinct, followed-distinct, joined-units, followed-units, units-absent, if_same, if_other, same_or_other}
use Rattle.amqp_session_outgoing.proofs.Joining.{trailed-length}

if_zero : (b : Bool) (n : ℕ) → (if b then n + 1 else n) ≡ 0 → (b ≡ false) × (n ≡ 0)
if_zero true n e = absurd (omega arith)
if_zero false n e = (refl, e)

not_handle : (k h : ℕ) → (k == h) ≡ false → k ≢ h
not_handle k h e = grind (arith, common_steps)

module _ {T F : Type 0} where
  -- the link is in the turn
  abbrev pub Stands : ℕ → Queues T F → Type 0
  Stands h [] = ⊥
  Stands h (q ∷ qs) = (q.0 ≡ h) ⊎ Stands h qs

  -- x stands before y
  abbrev pub Ahead : ℕ → ℕ → Queues T F → Type 0
  Ahead x y [] = ⊥
  Ahead x y (q ∷ qs) = ((q.0 ≡ x) × Stands y qs) ⊎ Ahead x y qs

  stands-absent : (h : ℕ) (qs : Queues T F) → Absent h qs → Stands h qs → ⊥
  stands-absent h [] a s = s
  stands-absent h (q ∷ qs) a s = elim s [ inl e ↦ a.0 e | inr t ↦ stands-absent h qs a.1 t ]

  stands-append : (h : ℕ) (qs more : Queues T F) → Stands h qs → Stands h (qs ++ more)
  stands-append h [] more s = absurd s
  stands-append h (q ∷ qs) more s = elim s [ inl e ↦ inl e | inr t ↦ inr (stands-append h qs more t) ]

  stands-last : (h : ℕ) (us : List (Outbound T F)) (qs : Queues T F) → Stands h (qs ++ (h, us) ∷ [])
  stands-last h us [] = inl refl
  stands-last h us (q ∷ qs) = inr (stands-last h us qs)

  ahead-append : (x y : ℕ) (qs more : Queues T F) → Ahead x y qs → Ahead x y (qs ++ more)
  ahead-append x y [] more a = absurd a
  ahead-append x y (q ∷ qs) more a = elim a [ inl p ↦ inl (p.0, stands-append y qs more p.1) | inr b ↦ inr (ahead-append x y qs more b) ]

  ahead-last : (x y : ℕ) (us : List (Outbound T F)) (qs : Queues T F) → Stands x qs → Ahead x y (qs ++ (y, us) ∷ [])
  ahead-last x y us [] s = absurd s
  ahead-last x y us (q ∷ qs) s = elim s [ inl e ↦ inl (e, stands-last y us qs) | inr t ↦ inr (ahead-last x y us qs t) ]

  ahead-stands : (x y : ℕ) (qs : Queues T F) → Ahead x y qs → Stands x qs
  ahead-stands x y [] a = a
  ahead-stands x y (q ∷ qs) a = elim a [ inl p ↦ inl p.0 | inr b ↦ inr (ahead-stands x y qs b) ]

  ahead-stands-second : (x y : ℕ) (qs : Queues T F) → Ahead x y qs → Stands y qs
  ahead-stands-second x y [] a = a
  ahead-stands-second x y (q ∷ qs) a = elim a [ inl p ↦ inr p.1 | inr b ↦ inr (ahead-stands-second x y qs b) ]

  stands-joined : (h k : ℕ) (batch : List (Outbound T F)) (qs : Queues T F) → Stands h qs → Stands h (joined k batch qs)
  stands-joined h k batch [] s = absurd s
  stands-joined h k batch (q ∷ qs) s =
      elim (same_or_other q.0 k) [
        | inl e ↦ subst (λ (x : Queues T F). Stands h x) (sym (if_same q.0 k _ _ e)) (elim s [ inl f ↦ inl (sym e ∙ f) | inr t ↦ inr t ])
        | inr n ↦ subst (λ (x : Queues T F). Stands h x) (sym (if_other q.0 k _ _ n)) (elim s [ inl f ↦ inl f | inr t ↦ inr (stands-joined h k batch qs t) ])
      ]

  ahead-joined : (x y k : ℕ) (batch : List (Outbound T F)) (qs : Queues T F) → Ahead x y qs → Ahead x y (joined k batch qs)
  ahead-joined x y k batch [] a = absurd a
  ahead-joined x y k batch (q ∷ qs) a =
      elim (same_or_other q.0 k) [
        | inl e ↦ subst (λ (z : Queues T F). Ahead x y z) (sym (if_same q.0 k _ _ e)) (elim a [ inl p ↦ inl (sym e ∙ p.0, p.1) | inr b ↦ inr b ])
        | inr n ↦ subst (λ (z : Queues T F). Ahead x y z) (sym (if_other q.0 k _ _ n)) (elim a [ inl p ↦ inl (p.0, stands-joined y k batch qs p.1) | inr b ↦ inr (ahead-joined x y k batch qs b) ])
      ]

  stands-followed : (h k : ℕ) (frame : F) (qs : Queues T F) → Stands h qs → Stands h (followed k frame qs)
  stands-followed h k frame [] s = absurd s
  stands-followed h k frame (q ∷ qs) s =
      elim (q.0 == k) as (λ b. Stands h (if b then (q.0, trailed frame q.1) ∷ qs else q ∷ followed k frame qs)) [
        | true ↦ s
        | false ↦ elim s [ inl f ↦ inl f | inr t ↦ inr (stands-followed h k frame qs t) ]
      ]

  ahead-followed : (x y k : ℕ) (frame : F) (qs : Queues T F) → Ahead x y qs → Ahead x y (followed k frame qs)
  ahead-followed x y k frame [] a = absurd a
  ahead-followed x y k frame (q ∷ qs) a =
      elim (q.0 == k) as (λ b. Ahead x y (if b then (q.0, trailed frame q.1) ∷ qs else q ∷ followed k frame qs)) [
        | true ↦ a
        | false ↦ elim a [ inl p ↦ inl (p.0, stands-followed y k frame qs p.1) | inr b ↦ inr (ahead-followed x y k frame qs b) ]
      ]

  ahead-rejoined : (x y k : ℕ) (us : List (Outbound T F)) (qs : Queues T F) → Ahead x y qs → Ahead x y (rejoined k us qs)
  ahead-rejoined x y k [] qs a = a
  ahead-rejoined x y k (u ∷ us) qs a = ahead-append x y qs _ a

  -- a link that still stands after its turn stands last
  last-rejoined : (x k : ℕ) (us : List (Outbound T F)) (qs : Queues T F) → Absent k qs → Stands k (rejoined k us qs) → Stands x qs → Ahead x k (rejoined k us qs)
  last-rejoined x k [] qs a s t = absurd (stands-absent k qs a s)
  last-rejoined x k (u ∷ us) qs a s t = ahead-last x k (u ∷ us) qs t

  -- one that stands after the turn of another stood before it
  stood : (x k : ℕ) (us : List (Outbound T F)) (qs : Queues T F) → k ≢ x → Stands x (rejoined k us qs) → Stands x qs
  stood x k [] qs n s = s
  stood x k (u ∷ us) qs n s = stood-push qs s
    where
      stood-push : (qs : Queues T F) → Stands x (qs ++ (k, u ∷ us) ∷ []) → Stands x qs
      stood-push [] s = elim s [ inl e ↦ n e | inr t ↦ t ]
      stood-push (q ∷ qs) s = elim s [ inl e ↦ inl e | inr t ↦ inr (stood-push qs t) ]

  -- the turn of a link: what is left of its transfers
  pub record Took (k : ℕ) (us : List (Outbound T F)) (others : Queues T F) (handle : ℕ) (new : Queues T F) : Type 0 where
    pub rest : List (Outbound T F)
    pub handle_is : handle ≡ k
    pub new_is : new ≡ rejoined k rest others

  took : (k : ℕ) (us : List (Outbound T F)) (others : Queues T F) (handle : ℕ) (taken : Outbound T F) (new : Queues T F) → TakesTurnOf k us others handle taken new → Took k us others handle new
  took k [] others handle taken new x = absurd x
  took k (u ∷ us) others handle taken new x = record { rest = us; handle_is = x.0; new_is = x.2 }

  -- while x stands before y and does not send, neither does y
  turn-behind : (x y : ℕ) (old : Queues T F) (handle : ℕ) (taken : Outbound T F) (new : Queues T F) → Distinct old → TakesTurn old handle taken new
      → handle ≢ x → Ahead x y old → (handle ≢ y) × Ahead x y new
  turn-behind x y [] handle taken new d t n a = absurd t
  turn-behind x y (q ∷ qs) handle taken new d t n a =
      let w : Took q.0 q.1 qs handle new = took q.0 q.1 qs handle taken new t in
      elim a [
        | inl p ↦ absurd (n (w.handle_is ∙ p.0))
        | inr b ↦ (
          (λ e. stands-absent q.0 qs d.0 (subst (λ (z : ℕ). Stands z qs) (sym e ∙ w.handle_is) (ahead-stands-second x y qs b))),
          subst (λ (z : Queues T F). Ahead x y z) (sym w.new_is) (ahead-rejoined x y q.0 w.rest qs b),
        )
      ]

  -- y, which stands before x, sends and then stands behind it, or stays before it
  turn-before : (x y : ℕ) (old : Queues T F) (handle : ℕ) (taken : Outbound T F) (new : Queues T F) → Distinct old → TakesTurn old handle taken new
      → Stands y new → Ahead y x old → ((handle ≡ y) × Ahead x y new) ⊎ ((handle ≢ y) × Ahead y x new)
  turn-before x y [] handle taken new d t s a = absurd t
  turn-before x y (q ∷ qs) handle taken new d t s a =
      let w : Took q.0 q.1 qs handle new = took q.0 q.1 qs handle taken new t in
      elim a [
        | inl p ↦ inl (
          w.handle_is ∙ p.0,
          subst (λ (z : ℕ). Ahead x z new) p.0 (subst (λ (z : Queues T F). Ahead x q.0 z) (sym w.new_is)
              (last-rejoined x q.0 w.rest qs d.0 (subst (λ (z : Queues T F). Stands q.0 z) w.new_is (subst (λ (z : ℕ). Stands z new) (sym p.0) s)) p.1)),
        )
        | inr b ↦ inr (
          (λ e. stands-absent q.0 qs d.0 (subst (λ (z : ℕ). Stands z qs) (sym e ∙ w.handle_is) (ahead-stands y x qs b))),
          subst (λ (z : Queues T F). Ahead y x z) (sym w.new_is) (ahead-rejoined y x q.0 w.rest qs b),
        )
      ]

  -- a link that sends and still stands is behind each other that stands
  turn-last : (x y : ℕ) (old : Queues T F) (handle : ℕ) (taken : Outbound T F) (new : Queues T F) → Distinct old → TakesTurn old handle taken new
      → handle ≡ x → x ≢ y → Stands x new → Stands y new → Ahead y x new
  turn-last x y [] handle taken new d t e n s r = absurd t
  turn-last x y (q ∷ qs) handle taken new d t e n s r =
      let w : Took q.0 q.1 qs handle new = took q.0 q.1 qs handle taken new t in
      let is : q.0 ≡ x = sym w.handle_is ∙ e in
      subst (λ (z : ℕ). Ahead y z new) is (subst (λ (z : Queues T F). Ahead y q.0 z) (sym w.new_is)
      (last-rejoined y q.0 w.rest qs d.0 (subst (λ (z : Queues T F). Stands q.0 z) w.new_is (subst (λ (z : ℕ). Stands z new) (sym is) s))
      (stood y q.0 w.rest qs (λ f. n (sym is ∙ f)) (subst (λ (z : Queues T F). Stands y z) w.new_is r))))

  -- none stands before the link that sends
  turn-first : (x y : ℕ) (old : Queues T F) (handle : ℕ) (taken : Outbound T F) (new : Queues T F) → Distinct old → TakesTurn old handle taken new → handle ≡ x → x ≢ y → Ahead y x old → ⊥
  turn-first x y [] handle taken new d t e n a = t
  turn-first x y (q ∷ qs) handle taken new d t e n a =
      let w : Took q.0 q.1 qs handle new = took q.0 q.1 qs handle taken new t in
      elim a [
        | inl p ↦ n (sym e ∙ w.handle_is ∙ p.0)
        | inr b ↦ stands-absent q.0 qs d.0 (subst (λ (z : ℕ). Stands z qs) (sym e ∙ w.handle_is) (ahead-stands-second y x qs b))
      ]

  -- the queues before and after events
  abbrev pub Moves : Queues T F → List (Event T F) → Queues T F → Type 0
  Moves old [] new = new ≡ old
  Moves old (In handle batch ∷ events) new = Moves (joined handle batch old) events new
  Moves old (Behind handle frame ∷ events) new = Moves (followed handle frame old) events new
  Moves old (Out s ∷ events) new = (mid : Queues T F) × ((taken : Outbound T F) × TakesTurn old (s.handle).0 taken mid) × Moves mid events new

  leaves-moves : (left : List (Sent T F)) (old mid : State T F) (events : List (Event T F)) (new : Queues T F) → Leaves old left mid → Moves mid.queues events new → Moves old.queues (outs left ++ events) new
  leaves-moves [] old mid events new run m = subst (λ (s : State T F). Moves s.queues events new) run m
  leaves-moves (s ∷ left) old mid events new run m = ((run.0).queues, (run.1.taken, run.1.turn), leaves-moves left run.0 mid events new run.2 m)

  step-moves : (step : Act T F) (old mid : State T F) (events : List (Event T F)) (new : Queues T F)
      → Step old step mid → Moves mid.queues events new → Moves old.queues (events_in step ++ events) new
  step-moves (TakesWindow base width left) old mid events new x m = leaves-moves left (with_window old base width) mid events new x.0 m
  step-moves (SetsWindow base width) old mid events new x m = subst (λ (qs : Queues T F). Moves qs events new) (ap (λ (s : State T F). s.queues) x) m
  step-moves (Accepts handle [] left) old mid events new x m = subst (λ (s : State T F). Moves s.queues events new) x.1 m
  step-moves (Accepts handle (u ∷ us) left) old mid events new x m = leaves-moves left (with_batch old handle.0 (u ∷ us)) mid events new x.2 m
  step-moves (Refuses batch error) old mid events new x m = subst (λ (s : State T F). Moves s.queues events new) x.1 m
  step-moves (Follows handle frame None) old mid events new x m = subst (λ (qs : Queues T F). Moves qs events new) x.0.1 m
  step-moves (Follows handle frame (Some left)) old mid events new x m = subst (λ (qs : Queues T F). Moves qs events new) x.0.2 m
  step-moves (Reserves count) old mid events new x m = subst (λ (qs : Queues T F). Moves qs events new) (ap (λ (s : State T F). s.queues) x) m
  step-moves (Settles number) old mid events new x m = subst (λ (qs : Queues T F). Moves qs events new) (ap (λ (s : State T F). s.queues) x) m
  step-moves (SettlesRange range) old mid events new x m = subst (λ (qs : Queues T F). Moves qs events new) (ap (λ (s : State T F). s.queues) x) m
  step-moves (Forgets handle) old mid events new x m = subst (λ (qs : Queues T F). Moves qs events new) (ap (λ (s : State T F). s.queues) x.1) m
  step-moves Fails old mid events new x m = subst (λ (s : State T F). Moves s.queues events new) x m

  pub history-moves : (steps : List (Act T F)) (start end : State T F) → History start steps end
      → Moves start.queues (events_of steps) end.queues
  history-moves [] start end run = ap (λ (s : State T F). s.queues) run
  history-moves (step ∷ steps) start end run = step-moves step start run.0 (events_of steps) end.queues run.1 (history-moves steps run.0 end run.2)

  -- a middle of a run
  pub record Halfway (old : Queues T F) (xs ys : List (Event T F)) (new : Queues T F) : Type 0 where
    pub mid : Queues T F
    pub one : Moves old xs mid
    pub two : Moves mid ys new

  split : (xs ys : List (Event T F)) (old new : Queues T F) → Moves old (xs ++ ys) new → Halfway old xs ys new
  split [] ys old new m = record { mid = old; one = refl; two = m }
  split (In k batch ∷ xs) ys old new m =
      let h : Halfway (joined k batch old) xs ys new = split xs ys (joined k batch old) new m in
      record { mid = h.mid; one = h.one; two = h.two }
  split (Behind k frame ∷ xs) ys old new m =
      let h : Halfway (followed k frame old) xs ys new = split xs ys (followed k frame old) new m in
      record { mid = h.mid; one = h.one; two = h.two }
  split (Out s ∷ xs) ys old new m =
      let h : Halfway m.0 xs ys new = split xs ys m.0 new m.2 in
      record { mid = h.mid; one = (m.0, m.1, h.one); two = h.two }

  joins : (xs ys : List (Event T F)) (old mid new : Queues T F) → Moves old xs mid → Moves mid ys new → Moves old (xs ++ ys) new
  joins [] ys old mid new m n = subst (λ (q : Queues T F). Moves q ys new) m n
  joins (In k batch ∷ xs) ys old mid new m n = joins xs ys (joined k batch old) mid new m n
  joins (Behind k frame ∷ xs) ys old mid new m n = joins xs ys (followed k frame old) mid new m n
  joins (Out s ∷ xs) ys old mid new m n = (m.0, m.1, joins xs ys m.0 mid new m.2 n)

  moves-distinct : (xs : List (Event T F)) (old new : Queues T F) → Distinct old → Moves old xs new → Distinct new
  moves-distinct [] old new d m = subst (λ (q : Queues T F). Distinct q) (sym m) d
  moves-distinct (In k batch ∷ xs) old new d m = moves-distinct xs (joined k batch old) new (joined-distinct k batch old d) m
  moves-distinct (Behind k frame ∷ xs) old new d m = moves-distinct xs (followed k frame old) new (followed-distinct k frame old d) m
  moves-distinct (Out s ∷ xs) old new d m = moves-distinct xs m.0 new (turn-distinct old (s.handle).0 m.1.0 m.0 d m.1.1) m.2

  length-if : (b : Bool) (batch : List (Outbound T F)) → length (if b then batch else []) ≡ (if b then length batch else 0)
  length-if true batch = refl
  length-if false batch = refl

  joined-count : (h k : ℕ) (batch : List (Outbound T F)) (qs : Queues T F) → length (units_of h (joined k batch qs)) ≡ length (units_of h qs) + (if k == h then length batch else 0)
  joined-count h k batch qs =
      ap (λ (us : List (Outbound T F)). length us) (joined-units h k batch qs)
      ∙ length-append (units_of h qs) (if k == h then batch else [])
      ∙ ap (λ (n : ℕ). length (units_of h qs) + n) (length-if (k == h) batch)

  trailed-if : (b : Bool) (frame : F) (us : List (Outbound T F)) → length (if b then trailed frame us else us) ≡ length us
  trailed-if true frame us = trailed-length frame us
  trailed-if false frame us = refl

  followed-count : (h k : ℕ) (frame : F) (qs : Queues T F) → length (units_of h (followed k frame qs)) ≡ length (units_of h qs)
  followed-count h k frame qs = ap (λ (us : List (Outbound T F)). length us) (followed-units h k frame qs) ∙ trailed-if (k == h) frame (units_of h qs)

  turn-count : (b : Bool) (n : ℕ) (taken : Outbound T F) (us was : List (Outbound T F)) → (if b then taken ∷ us else us) ≡ was → (if b then n + 1 else n) + length us ≡ n + length was
  turn-count true n taken us was e = let same : length (taken ∷ us) ≡ length was = ap (λ (vs : List (Outbound T F)). length vs) e in omega arith
  turn-count false n taken us was e = ap (λ (vs : List (Outbound T F)). n + length vs) e

  -- a link has as much waiting as it was accepted more than it sent
  moves-count : (h : ℕ) (xs : List (Event T F)) (old new : Queues T F) → Distinct old → Moves old xs new → turns_of h xs + length (units_of h new) ≡ length (units_of h old) + accepted_count h xs
  moves-count h [] old new d m = let same : length (units_of h new) ≡ length (units_of h old) = ap (λ (q : Queues T F). length (units_of h q)) m in omega arith
  moves-count h (In k batch ∷ xs) old new d m =
      let rest : turns_of h xs + length (units_of h new) ≡ length (units_of h (joined k batch old)) + accepted_count h xs = moves-count h xs (joined k batch old) new (joined-distinct k batch old d) m in
      omega (arith, joined-count h k batch old)
  moves-count h (Behind k frame ∷ xs) old new d m =
      let rest : turns_of h xs + length (units_of h new) ≡ length (units_of h (followed k frame old)) + accepted_count h xs = moves-count h xs (followed k frame old) new (followed-distinct k frame old d) m in
      omega (arith, followed-count h k frame old)
  moves-count h (Out s ∷ xs) old new d m =
      let rest : turns_of h xs + length (units_of h new) ≡ length (units_of h m.0) + accepted_count h xs = moves-count h xs m.0 new (turn-distinct old (s.handle).0 m.1.0 m.0 d m.1.1) m.2 in
      let turn : (if (s.handle).0 == h then turns_of h xs + 1 else turns_of h xs) + length (units_of h m.0) ≡ turns_of h xs + length (units_of h old) =
      turn-count ((s.handle).0 == h) (turns_of h xs) m.1.0 (units_of h m.0) (units_of h old) (turn-units h old (s.handle).0 m.1.0 m.0 d m.1.1) in
      omega arith

  stands-or-absent : (h : ℕ) (qs : Queues T F) → Stands h qs ⊎ Absent h qs
  stands-or-absent h [] = inr tt
  stands-or-absent h (q ∷ qs) =
      elim (same_or_other q.0 h) [
        | inl e ↦ inl (inl e)
        | inr n ↦ elim (stands-or-absent h qs) [ inl s ↦ inl (inr s) | inr a ↦ inr (n, a) ]
      ]

  -- a link that waits stands in the turn
  waits-stands : (h : ℕ) (past : List (Event T F)) (q : Queues T F) → Moves [] past q → Waits h past → Stands h q
  waits-stands h past q m w =
      elim (stands-or-absent h q) [
        | inl s ↦ s
        | inr a ↦
            let none : length (units_of h q) ≡ 0 = ap (λ (us : List (Outbound T F)). length us) (units-absent h q a) in
            let all : turns_of h past + length (units_of h q) ≡ 0 + accepted_count h past = moves-count h past [] q tt m in
            absurd (omega arith)
      ]

  now : (h : ℕ) (past events : List (Event T F)) → WaitsThroughout h past events → Waits h past
  now h past [] w = w
  now h past (e ∷ events) w = w.0

  -- while x stands before y and sends nothing, neither does y
  behind : (x y : ℕ) (events past : List (Event T F)) (q r : Queues T F) → Moves [] past q → Distinct q → Moves q events r → turns_of x events ≡ 0 → Ahead x y q → (turns_of y events ≡ 0) × Ahead x y r
  behind x y [] past q r before d m n a = (refl, subst (λ (z : Queues T F). Ahead x y z) (sym m) a)
  behind x y (In k batch ∷ events) past q r before d m n a =
      behind x y events (past ++ In k batch ∷ []) (joined k batch q) r (joins past (In k batch ∷ []) [] q (joined k batch q) before refl) (joined-distinct k batch q d) m n (ahead-joined x y k batch q a)
  behind x y (Behind k frame ∷ events) past q r before d m n a =
      behind x y events (past ++ Behind k frame ∷ []) (followed k frame q) r (joins past (Behind k frame ∷ []) [] q (followed k frame q) before refl) (followed-distinct k frame q d) m n (ahead-followed x y k frame q a)
  behind x y (Out s ∷ events) past q r before d m n a =
      let z : (((s.handle).0 == x) ≡ false) × (turns_of x events ≡ 0) = if_zero ((s.handle).0 == x) (turns_of x events) n in
      let step : ((s.handle).0 ≢ y) × Ahead x y m.0 = turn-behind x y q (s.handle).0 m.1.0 m.0 d m.1.1 (not_handle (s.handle).0 x z.0) a in
      let rest : (turns_of y events ≡ 0) × Ahead x y r = behind x y events (past ++ Out s ∷ []) m.0 r (joins past (Out s ∷ []) [] q m.0 before (m.0, m.1, refl)) (turn-distinct q (s.handle).0 m.1.0 m.0 d m.1.1) m.2 z.1 step.1 in
      (if_other (s.handle).0 y _ _ step.0 ∙ rest.0, rest.1)

  -- y, which stands before x, sends once and then stands behind it, or not at all and stays before it
  before_it : (x y : ℕ) (events past : List (Event T F)) (q r : Queues T F) → Moves [] past q → Distinct q → Moves q events r → turns_of x events ≡ 0 → WaitsThroughout y past events → Ahead y x q
      → ((turns_of y events ≡ 1) × Ahead x y r) ⊎ ((turns_of y events ≡ 0) × Ahead y x r)
  before_it x y [] past q r before d m n w a = inr (refl, subst (λ (z : Queues T F). Ahead y x z) (sym m) a)
  before_it x y (In k batch ∷ events) past q r before d m n w a =
      before_it x y events (past ++ In k batch ∷ []) (joined k batch q) r (joins past (In k batch ∷ []) [] q (joined k batch q) before refl) (joined-distinct k batch q d) m n w.1 (ahead-joined y x k batch q a)
  before_it x y (Behind k frame ∷ events) past q r before d m n w a =
      before_it x y events (past ++ Behind k frame ∷ []) (followed k frame q) r (joins past (Behind k frame ∷ []) [] q (followed k frame q) before refl) (followed-distinct k frame q d) m n w.1 (ahead-followed y x k frame q a)
  before_it x y (Out s ∷ events) past q r before d m n w a =
      let z : (((s.handle).0 == x) ≡ false) × (turns_of x events ≡ 0) = if_zero ((s.handle).0 == x) (turns_of x events) n in
      let later : Moves [] (past ++ Out s ∷ []) m.0 = joins past (Out s ∷ []) [] q m.0 before (m.0, m.1, refl) in
      let stands : Stands y m.0 = waits-stands y (past ++ Out s ∷ []) m.0 later (now y (past ++ Out s ∷ []) events w.1) in
      let d' : Distinct m.0 = turn-distinct q (s.handle).0 m.1.0 m.0 d m.1.1 in
      elim (turn-before x y q (s.handle).0 m.1.0 m.0 d m.1.1 stands a) [
        | inl p ↦
            let rest : (turns_of y events ≡ 0) × Ahead x y r = behind x y events (past ++ Out s ∷ []) m.0 r later d' m.2 z.1 p.1 in
            inl (if_same (s.handle).0 y _ _ p.0 ∙ ap (λ (k : ℕ). k + 1) rest.0, rest.1)
        | inr p ↦ elim (before_it x y events (past ++ Out s ∷ []) m.0 r later d' m.2 z.1 w.1 p.1) [
          | inl u ↦ inl (if_other (s.handle).0 y _ _ p.0 ∙ u.0, u.1)
          | inr u ↦ inr (if_other (s.handle).0 y _ _ p.0 ∙ u.0, u.1)
        ]
      ]

  pub exactly_one : (x y : ℕ) (events before between : List (Event T F)) (end : Queues T F) → Moves [] events end → (pair : Successive x events before between)
      → x ≢ y → WaitsThroughout y (before ++ Out pair.one ∷ []) between → turns_of y between ≡ 1
  exactly_one x y events before between end m pair n w =
      let whole : Moves [] (before ++ (Out pair.one ∷ (between ++ (Out pair.next ∷ pair.later)))) end = subst (λ (es : List (Event T F)). Moves [] es end) pair.splits m in
      let h : Halfway [] before (Out pair.one ∷ (between ++ (Out pair.next ∷ pair.later))) end = split before _ [] end whole in
      let d : Distinct h.mid = moves-distinct before [] h.mid tt h.one in
      let q : Queues T F = h.two.0 in
      let since : List (Event T F) = before ++ Out pair.one ∷ [] in
      let past : Moves [] since q = joins before (Out pair.one ∷ []) [] h.mid q h.one (q, h.two.1, refl) in
      let dq : Distinct q = turn-distinct h.mid (pair.one.handle).0 h.two.1.0 q d h.two.1.1 in
      let sx : Stands x q = waits-stands x since q past (now x since between pair.waits) in
      let sy : Stands y q = waits-stands y since q past (now y since between w) in
      let first : Ahead y x q = turn-last x y h.mid (pair.one.handle).0 h.two.1.0 q d h.two.1.1 pair.one_is n sx sy in
      let k : Halfway q between (Out pair.next ∷ pair.later) end = split between (Out pair.next ∷ pair.later) q end h.two.2 in
      elim (before_it x y between since q k.mid past dq k.one pair.no_other w first) [
        | inl u ↦ u.0
        | inr u ↦ absurd (turn-first x y k.mid (pair.next.handle).0 k.two.1.0 k.two.0 (moves-distinct between q k.mid dq k.one) k.two.1.1 pair.next_is n u.1)
      ]
