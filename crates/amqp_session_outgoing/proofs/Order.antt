-- For each link, what left and what waits are what was accepted, in order.
use Rattle.std.proofs.Common.{◌≡◌, ◌≢◌, ℕ, List, [], ◌∷◌, ◌++◌, refl, sym, ◌∙◌, ap, subst, arith, Bool, true, false, append_assoc, ◌⊎◌, inl, inr, Some, None, is_some}
use Rattle.std.specs.Prelude.{◌==◌, ◌<◌, length, if◌then◌else◌}
use Rattle.std.proofs.lemmas.List.{append-nil}
use Rattle.std.proofs.lemmas.Bool.Decides.{eqb_tells}
use Rattle.std.proofs.lemmas.Grind.{common_steps}
use Rattle.amqp_session_outgoing.specs.Frames.{LinkFrame, Transferred, Other, others, frames_of, frames_sent, is_first}
pub use Rattle.amqp_session_outgoing.specs.Queues.{Absent, Distinct}
use Rattle.amqp_session_outgoing.specs.Queues.{Queues, TakesTurn, TakesTurnOf, rejoined, joined, followed, trailed, units_of, waiting_of}
use Rattle.amqp_session_outgoing.specs.State.{State, Leaves, Sends, with_window, with_batch}
use Rattle.amqp_session_outgoing.specs.History.{Act, Step, History, TakesWindow, SetsWindow, Accepts, Refuses}
use Rattle.amqp_session_outgoing.specs.History.{Follows, Reserves, Settles, SettlesRange, Forgets, Fails}
use Rattle.amqp_session_outgoing.specs.Told.{frames_by, out_in, out_of, accepted_in, accepted_of}
use Rattle.amqp_session_outgoing.specs.declared.frames.Outbound.{Outbound}
use Rattle.amqp_session_outgoing.specs.declared.frames.Sent.{Sent}

pub if_same : {A : Type 0} → (k h : ℕ) (a b : A) → k ≡ h → (if k == h then a else b) ≡ a
if_same k h a b e = grind (arith, common_steps)

pub if_other : {A : Type 0} → (k h : ℕ) (a b : A) → k ≢ h → (if k == h then a else b) ≡ b
if_other k h a b e = grind (arith, common_steps)

pub same_or_other : (k h : ℕ) → (k ≡ h) ⊎ (k ≢ h)
same_or_other k h = elim (eqb_tells k h) [ inl p ↦ inl p.1 | inr p ↦ inr p.1 ]

some_if : (b : Bool) (n : ℕ) → is_some (if b then Some n else None) ≡ b
some_if true n = refl
some_if false n = refl

module _ {T F : Type 0} where
  frames-append : (us vs : List (Outbound T F)) → frames_of (us ++ vs) ≡ frames_of us ++ frames_of vs
  frames-append [] vs = refl
  frames-append (u ∷ us) vs =
      ap (λ (xs : List (LinkFrame T F)). (Transferred (is_first u.part) u.transfer ∷ others u.behind) ++ xs) (frames-append us vs)
      ∙ sym (append_assoc (Transferred (is_first u.part) u.transfer ∷ others u.behind) (frames_of us) (frames_of vs))

  others-push : (frames : List F) (frame : F) → others {T = T} (frames ++ frame ∷ []) ≡ others {T = T} frames ++ Other frame ∷ []
  others-push [] frame = refl
  others-push (f ∷ frames) frame = ap (λ (xs : List (LinkFrame T F)). Other f ∷ xs) (others-push frames frame)

  -- a frame behind transfers is the last of their frames
  frames-trailed : (frame : F) (us : List (Outbound T F)) → 0 < length us → frames_of (trailed frame us) ≡ frames_of us ++ Other frame ∷ []
  frames-trailed frame [] some = absurd (omega arith)
  frames-trailed frame (u ∷ []) some =
      append-nil (Transferred (is_first u.part) u.transfer ∷ others (u.behind ++ frame ∷ []))
      ∙ ap (λ (xs : List (LinkFrame T F)). Transferred (is_first u.part) u.transfer ∷ xs) (others-push u.behind frame)
      ∙ ap (λ (xs : List (LinkFrame T F)). xs ++ Other frame ∷ []) (sym (append-nil (Transferred (is_first u.part) u.transfer ∷ others u.behind)))
  frames-trailed frame (u ∷ v ∷ us) some =
      ap (λ (xs : List (LinkFrame T F)). (Transferred (is_first u.part) u.transfer ∷ others u.behind) ++ xs) (frames-trailed frame (v ∷ us) (omega arith))
      ∙ sym (append_assoc (Transferred (is_first u.part) u.transfer ∷ others u.behind) (frames_of (v ∷ us)) (Other frame ∷ []))

  -- a transfer leaves with its frames
  frames-sent : (old new : State T F) (s : Sent T F) (x : Sends old s new) → frames_sent s ≡ frames_of (x.taken ∷ [])
  frames-sent old new s x =
      ap (λ (t : Sent T F). frames_sent t) x.says
      ∙ ap (λ (b : Bool). Transferred b x.taken.transfer ∷ others x.taken.behind) (some_if (is_first x.taken.part) old.next_delivery_number)
      ∙ sym (append-nil (Transferred (is_first x.taken.part) x.taken.transfer ∷ others x.taken.behind))

  pub units-absent : (h : ℕ) (qs : Queues T F) → Absent h qs → units_of h qs ≡ []
  units-absent h [] a = refl
  units-absent h (q ∷ qs) a =
      let other : q.0 ≢ h = a.0 in
      let rest : units_of h qs ≡ [] = units-absent h qs a.1 in
      grind (arith, common_steps)

  units-push-same : (h : ℕ) (us : List (Outbound T F)) (qs : Queues T F) → Absent h qs → units_of h (qs ++ (h, us) ∷ []) ≡ us
  units-push-same h us [] a = grind (arith, common_steps)
  units-push-same h us (q ∷ qs) a =
      let other : q.0 ≢ h = a.0 in
      let rest : units_of h (qs ++ (h, us) ∷ []) ≡ us = units-push-same h us qs a.1 in
      grind (arith, common_steps)

  units-push-other : (h k : ℕ) (us : List (Outbound T F)) (qs : Queues T F) → k ≢ h → units_of h (qs ++ (k, us) ∷ []) ≡ units_of h qs
  units-push-other h k us [] a = grind (arith, common_steps)
  units-push-other h k us (q ∷ qs) a =
      let rest : units_of h (qs ++ (k, us) ∷ []) ≡ units_of h qs = units-push-other h k us qs a in
      grind (arith, common_steps)

  absent-push : (h k : ℕ) (us : List (Outbound T F)) (qs : Queues T F) → Absent h qs → k ≢ h → Absent h (qs ++ (k, us) ∷ [])
  absent-push h k us [] a e = (e, tt)
  absent-push h k us (q ∷ qs) a e = (a.0, absent-push h k us qs a.1 e)

  distinct-push : (k : ℕ) (us : List (Outbound T F)) (qs : Queues T F) → Distinct qs → Absent k qs → Distinct (qs ++ (k, us) ∷ [])
  distinct-push k us [] d a = (tt, tt)
  distinct-push k us (q ∷ qs) d a = (absent-push q.0 k us qs d.0 (λ e. a.0 (sym e)), distinct-push k us qs d.1 a.1)

  rejoined-same : (k : ℕ) (us : List (Outbound T F)) (qs : Queues T F) → Absent k qs → units_of k (rejoined k us qs) ≡ us
  rejoined-same k [] qs a = units-absent k qs a
  rejoined-same k (u ∷ us) qs a = units-push-same k (u ∷ us) qs a

  rejoined-other : (h k : ℕ) (us : List (Outbound T F)) (qs : Queues T F) → k ≢ h → units_of h (rejoined k us qs) ≡ units_of h qs
  rejoined-other h k [] qs e = refl
  rejoined-other h k (u ∷ us) qs e = units-push-other h k (u ∷ us) qs e

  distinct-rejoined : (k : ℕ) (us : List (Outbound T F)) (qs : Queues T F) → Distinct qs → Absent k qs → Distinct (rejoined k us qs)
  distinct-rejoined k [] qs d a = d
  distinct-rejoined k (u ∷ us) qs d a = distinct-push k (u ∷ us) qs d a

  -- a link whose turn it is
  turn-of : (h k : ℕ) (u : Outbound T F) (us : List (Outbound T F)) (qs : Queues T F) → Absent k qs
      → (if k == h then u ∷ units_of h (rejoined k us qs) else units_of h (rejoined k us qs)) ≡ (if k == h then u ∷ us else units_of h qs)
  turn-of h k u us qs a =
      elim (same_or_other k h) [
        | inl e ↦ if_same k h _ _ e ∙ ap (λ (xs : List (Outbound T F)). u ∷ xs) (subst (λ (x : ℕ). units_of x (rejoined k us qs) ≡ us) e (rejoined-same k us qs a)) ∙ sym (if_same k h _ _ e)
        | inr n ↦ if_other k h _ _ n ∙ rejoined-other h k us qs n ∙ sym (if_other k h _ _ n)
      ]

  turn-units-of : (h k : ℕ) (us : List (Outbound T F)) (rest : Queues T F) (handle : ℕ) (taken : Outbound T F) (new : Queues T F) → Absent k rest
      → TakesTurnOf k us rest handle taken new → (if handle == h then taken ∷ units_of h new else units_of h new) ≡ (if k == h then us else units_of h rest)
  turn-units-of h k [] rest handle taken new a x = absurd x
  turn-units-of h k (u ∷ us) rest handle taken new a x = rw (x.0, x.1, x.2) (turn-of h k u us rest a)

  turn-distinct-of : (k : ℕ) (us : List (Outbound T F)) (rest : Queues T F) (handle : ℕ) (taken : Outbound T F) (new : Queues T F) → Absent k rest → Distinct rest
      → TakesTurnOf k us rest handle taken new → Distinct new
  turn-distinct-of k [] rest handle taken new a d x = absurd x
  turn-distinct-of k (u ∷ us) rest handle taken new a d x = subst (λ (qs : Queues T F). Distinct qs) (sym x.2) (distinct-rejoined k us rest d a)

  pub turn-units : (h : ℕ) (old : Queues T F) (handle : ℕ) (taken : Outbound T F) (new : Queues T F) → Distinct old → TakesTurn old handle taken new
      → (if handle == h then taken ∷ units_of h new else units_of h new) ≡ units_of h old
  turn-units h [] handle taken new d x = absurd x
  turn-units h (q ∷ qs) handle taken new d x = turn-units-of h q.0 q.1 qs handle taken new d.0 x

  pub turn-distinct : (old : Queues T F) (handle : ℕ) (taken : Outbound T F) (new : Queues T F) → Distinct old → TakesTurn old handle taken new → Distinct new
  turn-distinct [] handle taken new d x = absurd x
  turn-distinct (q ∷ qs) handle taken new d x = turn-distinct-of q.0 q.1 qs handle taken new d.0 d.1 x

  one-more : (b : Bool) (u : Outbound T F) (us : List (Outbound T F)) → (if b then frames_of (u ∷ []) else []) ++ frames_of us ≡ frames_of (if b then u ∷ us else us)
  one-more true u us = sym (frames-append (u ∷ []) us)
  one-more false u us = refl

  -- the frames that leave in a turn were the first of their link's
  turn-frames : (h : ℕ) (old new : State T F) (s : Sent T F) → Distinct old.queues → Sends old s new
      → (if (s.handle).0 == h then frames_sent s else []) ++ waiting_of h new.queues ≡ waiting_of h old.queues
  turn-frames h old new s d x =
      ap (λ (fs : List (LinkFrame T F)). (if (s.handle).0 == h then fs else []) ++ waiting_of h new.queues) (frames-sent old new s x)
      ∙ one-more ((s.handle).0 == h) x.taken (units_of h new.queues)
      ∙ ap (λ (us : List (Outbound T F)). frames_of us) (turn-units h old.queues (s.handle).0 x.taken new.queues d x.turn)

  pub leaves-distinct : (left : List (Sent T F)) (old new : State T F) → Distinct old.queues → Leaves old left new → Distinct new.queues
  leaves-distinct [] old new d run = subst (λ (s : State T F). Distinct s.queues) (sym run) d
  leaves-distinct (s ∷ left) old new d run = leaves-distinct left run.0 new (turn-distinct old.queues (s.handle).0 run.1.taken (run.0).queues d run.1.turn) run.2

  leaves-frames : (h : ℕ) (left : List (Sent T F)) (old new : State T F) → Distinct old.queues → Leaves old left new → frames_by h left ++ waiting_of h new.queues ≡ waiting_of h old.queues
  leaves-frames h [] old new d run = ap (λ (s : State T F). waiting_of h s.queues) run
  leaves-frames h (s ∷ left) old new d run =
      let d' : Distinct (run.0).queues = turn-distinct old.queues (s.handle).0 run.1.taken (run.0).queues d run.1.turn in
      append_assoc (if (s.handle).0 == h then frames_sent s else []) (frames_by h left) (waiting_of h new.queues)
      ∙ ap (λ (xs : List (LinkFrame T F)). (if (s.handle).0 == h then frames_sent s else []) ++ xs) (leaves-frames h left run.0 new d' run.2)
      ∙ turn-frames h old run.0 s d run.1

  joined-absent : (h k : ℕ) (batch : List (Outbound T F)) (qs : Queues T F) → Absent h qs → k ≢ h → Absent h (joined k batch qs)
  joined-absent h k batch [] a e = (e, tt)
  joined-absent h k batch (q ∷ qs) a e =
      elim (q.0 == k) as (λ b. Absent h (if b then (k, q.1 ++ batch) ∷ qs else q ∷ joined k batch qs)) [
        | true ↦ (e, a.1)
        | false ↦ (a.0, joined-absent h k batch qs a.1 e)
      ]

  pub joined-distinct : (k : ℕ) (batch : List (Outbound T F)) (qs : Queues T F) → Distinct qs → Distinct (joined k batch qs)
  joined-distinct k batch [] d = (tt, tt)
  joined-distinct k batch (q ∷ qs) d =
      elim (same_or_other q.0 k) [
        | inl e ↦ subst (λ (x : Queues T F). Distinct x) (sym (if_same q.0 k _ _ e)) (subst (λ (x : ℕ). Absent x qs) e d.0, d.1)
        | inr n ↦ subst (λ (x : Queues T F). Distinct x) (sym (if_other q.0 k _ _ n)) (joined-absent q.0 k batch qs d.0 (λ e. n (sym e)), joined-distinct k batch qs d.1)
      ]

  pub joined-units : (h k : ℕ) (batch : List (Outbound T F)) (qs : Queues T F) → units_of h (joined k batch qs) ≡ units_of h qs ++ (if k == h then batch else [])
  joined-units h k batch [] = refl
  joined-units h k batch (q ∷ qs) =
      let rest : units_of h (joined k batch qs) ≡ units_of h qs ++ (if k == h then batch else []) = joined-units h k batch qs in
      grind (arith, common_steps, append-nil)

  frames_if : (b : Bool) (batch : List (Outbound T F)) → frames_of (if b then batch else []) ≡ (if b then frames_of batch else [])
  frames_if true batch = refl
  frames_if false batch = refl

  joined-frames : (h k : ℕ) (batch : List (Outbound T F)) (qs : Queues T F) → waiting_of h (joined k batch qs) ≡ waiting_of h qs ++ (if k == h then frames_of batch else [])
  joined-frames h k batch qs =
      ap (λ (us : List (Outbound T F)). frames_of us) (joined-units h k batch qs)
      ∙ frames-append (units_of h qs) (if k == h then batch else [])
      ∙ ap (λ (fs : List (LinkFrame T F)). waiting_of h qs ++ fs) (frames_if (k == h) batch)

  pub followed-absent : (h k : ℕ) (frame : F) (qs : Queues T F) → Absent h qs → Absent h (followed k frame qs)
  followed-absent h k frame [] a = tt
  followed-absent h k frame (q ∷ qs) a =
      elim (q.0 == k) as (λ b. Absent h (if b then (q.0, trailed frame q.1) ∷ qs else q ∷ followed k frame qs)) [
        | true ↦ a
        | false ↦ (a.0, followed-absent h k frame qs a.1)
      ]

  pub followed-distinct : (k : ℕ) (frame : F) (qs : Queues T F) → Distinct qs → Distinct (followed k frame qs)
  followed-distinct k frame [] d = tt
  followed-distinct k frame (q ∷ qs) d =
      elim (q.0 == k) as (λ b. Distinct (if b then (q.0, trailed frame q.1) ∷ qs else q ∷ followed k frame qs)) [
        | true ↦ d
        | false ↦ (followed-absent q.0 k frame qs d.0, followed-distinct k frame qs d.1)
      ]

  pub followed-units : (h k : ℕ) (frame : F) (qs : Queues T F) → units_of h (followed k frame qs) ≡ (if k == h then trailed frame (units_of h qs) else units_of h qs)
  followed-units h k frame [] = grind (arith, common_steps)
  followed-units h k frame (q ∷ qs) =
      let rest : units_of h (followed k frame qs) ≡ (if k == h then trailed frame (units_of h qs) else units_of h qs) = followed-units h k frame qs in
      grind (arith, common_steps)

  followed-frames : (h k : ℕ) (frame : F) (qs : Queues T F) → 0 < length (units_of k qs) → waiting_of h (followed k frame qs) ≡ waiting_of h qs ++ (if k == h then Other frame ∷ [] else [])
  followed-frames h k frame qs some =
      ap (λ (us : List (Outbound T F)). frames_of us) (followed-units h k frame qs)
      ∙ elim (same_or_other k h) [
        | inl e ↦
            ap (λ (us : List (Outbound T F)). frames_of us) (if_same k h _ _ e)
            ∙ frames-trailed frame (units_of h qs) (subst (λ (x : ℕ). 0 < length (units_of x qs)) e some)
            ∙ ap (λ (fs : List (LinkFrame T F)). waiting_of h qs ++ fs) (sym (if_same k h _ _ e))
        | inr n ↦
            ap (λ (us : List (Outbound T F)). frames_of us) (if_other k h _ _ n)
            ∙ sym (append-nil (waiting_of h qs))
            ∙ ap (λ (fs : List (LinkFrame T F)). waiting_of h qs ++ fs) (sym (if_other k h _ _ n))
      ]

  -- a step keeps the order
  pub record InOrder (h : ℕ) (old : State T F) (step : Act T F) (new : State T F) : Type 0 where
    pub distinct : Distinct new.queues
    pub order : out_in h step ++ waiting_of h new.queues ≡ waiting_of h old.queues ++ accepted_in h step

  stays : (h : ℕ) (old new : State T F) → Distinct old.queues → new.queues ≡ old.queues → Distinct new.queues × (waiting_of h new.queues ≡ waiting_of h old.queues ++ [])
  stays h old new d e = (subst (λ (qs : Queues T F). Distinct qs) (sym e) d, ap (λ (qs : Queues T F). waiting_of h qs) e ∙ sym (append-nil (waiting_of h old.queues)))

  still : (h : ℕ) (old new : State T F) (step : Act T F) → Distinct old.queues → new.queues ≡ old.queues
      → out_in h step ≡ [] → accepted_in h step ≡ [] → InOrder h old step new
  still h old new step d e a b =
      record {
        distinct = (stays h old new d e).0;
        order =
            ap (λ (xs : List (LinkFrame T F)). xs ++ waiting_of h new.queues) a ∙ (stays h old new d e).1
            ∙ ap (λ (xs : List (LinkFrame T F)). waiting_of h old.queues ++ xs) (sym b);
      }

  frames_nil : (b : Bool) → (if b then frames_of {T = T} {F = F} [] else []) ≡ []
  frames_nil true = refl
  frames_nil false = refl

  step-order : (h : ℕ) (step : Act T F) (old new : State T F) → Distinct old.queues → Step old step new
      → InOrder h old step new
  step-order h (TakesWindow base width left) old new d x = record {
    distinct = leaves-distinct left (with_window old base width) new d x.0;
    order = leaves-frames h left (with_window old base width) new d x.0 ∙ sym (append-nil (waiting_of h old.queues));
  }
  step-order h (SetsWindow base width) old new d x = still h old new (SetsWindow base width) d (ap (λ (s : State T F). s.queues) x) refl refl
  step-order h (Accepts handle [] left) old new d x =
      still h old new (Accepts handle [] left) d (ap (λ (s : State T F). s.queues) x.1) (ap (λ (ls : List (Sent T F)). frames_by h ls) x.0) (frames_nil (handle.0 == h))
  step-order h (Accepts handle (u ∷ us) left) old new d x =
      let d' : Distinct (joined handle.0 (u ∷ us) old.queues) = joined-distinct handle.0 (u ∷ us) old.queues d in
      record {
        distinct = leaves-distinct left (with_batch old handle.0 (u ∷ us)) new d' x.2;
        order = leaves-frames h left (with_batch old handle.0 (u ∷ us)) new d' x.2 ∙ joined-frames h handle.0 (u ∷ us) old.queues;
      }
  step-order h (Refuses batch error) old new d x = still h old new (Refuses batch error) d (ap (λ (s : State T F). s.queues) x.1) refl refl
  step-order h (Follows handle frame None) old new d x = record {
    distinct = subst (λ (qs : Queues T F). Distinct qs) (sym x.0.1) (followed-distinct handle.0 frame old.queues d);
    order = ap (λ (qs : Queues T F). waiting_of h qs) x.0.1 ∙ followed-frames h handle.0 frame old.queues x.0.0;
  }
  step-order h (Follows handle frame (Some left)) old new d x = record {
    distinct = subst (λ (qs : Queues T F). Distinct qs) (sym x.0.2) d;
    order = at_once (handle.0 == h) refl;
  }
    where
      at_once : (b : Bool) → (handle.0 == h) ≡ b → (if handle.0 == h then Other left ∷ [] else []) ++ waiting_of h new.queues ≡ waiting_of h old.queues ++ (if handle.0 == h then Other frame ∷ [] else [])
      at_once b e = elim (same_or_other handle.0 h) [
        | inl s ↦
            let none : units_of h new.queues ≡ [] = ap (λ (qs : Queues T F). units_of h qs) x.0.2 ∙ subst (λ (k : ℕ). units_of k old.queues ≡ []) s x.0.0 in
            let was : units_of h old.queues ≡ [] = subst (λ (k : ℕ). units_of k old.queues ≡ []) s x.0.0 in
            ap (λ (xs : List (LinkFrame T F)). xs ++ waiting_of h new.queues) (if_same handle.0 h _ _ s)
            ∙ ap (λ (us : List (Outbound T F)). (Other left ∷ []) ++ frames_of us) none
            ∙ ap (λ (f : F). Other f ∷ []) x.0.1
            ∙ sym (ap (λ (us : List (Outbound T F)). frames_of us ++ (Other frame ∷ [])) was)
            ∙ ap (λ (xs : List (LinkFrame T F)). waiting_of h old.queues ++ xs) (sym (if_same handle.0 h _ _ s))
        | inr n ↦
            ap (λ (xs : List (LinkFrame T F)). xs ++ waiting_of h new.queues) (if_other handle.0 h _ _ n)
            ∙ ap (λ (qs : Queues T F). waiting_of h qs) x.0.2
            ∙ sym (append-nil (waiting_of h old.queues))
            ∙ ap (λ (xs : List (LinkFrame T F)). waiting_of h old.queues ++ xs) (sym (if_other handle.0 h _ _ n))
      ]
  step-order h (Reserves count) old new d x = still h old new (Reserves count) d (ap (λ (s : State T F). s.queues) x) refl refl
  step-order h (Settles number) old new d x = still h old new (Settles number) d (ap (λ (s : State T F). s.queues) x) refl refl
  step-order h (SettlesRange range) old new d x = still h old new (SettlesRange range) d (ap (λ (s : State T F). s.queues) x) refl refl
  step-order h (Forgets handle) old new d x = still h old new (Forgets handle) d (ap (λ (s : State T F). s.queues) x.1) refl refl
  step-order h Fails old new d x = still h old new Fails d (ap (λ (s : State T F). s.queues) x) refl refl

  chained : (left out waits mid accepted was more : List (LinkFrame T F)) → out ++ waits ≡ mid ++ accepted → left ++ mid ≡ was ++ more → (left ++ out) ++ waits ≡ was ++ (more ++ accepted)
  chained left out waits mid accepted was more p q =
      append_assoc left out waits ∙ ap (λ (xs : List (LinkFrame T F)). left ++ xs) p ∙ sym (append_assoc left mid accepted)
      ∙ ap (λ (xs : List (LinkFrame T F)). xs ++ accepted) q ∙ append_assoc was more accepted

  pub history-order : (h : ℕ) (steps : List (Act T F)) (start end : State T F) → Distinct start.queues
      → History start steps end
      → out_of h steps ++ waiting_of h end.queues ≡ waiting_of h start.queues ++ accepted_of h steps
  history-order h [] start end d run = ap (λ (s : State T F). waiting_of h s.queues) run ∙ sym (append-nil (waiting_of h start.queues))
  history-order h (step ∷ steps) start end d run =
      let o : InOrder h start step run.0 = step-order h step start run.0 d run.1 in
      chained (out_in h step) (out_of h steps) (waiting_of h end.queues) (waiting_of h (run.0).queues) (accepted_of h steps) (waiting_of h start.queues) (accepted_in h step)
      (history-order h steps run.0 end o.distinct run.2) o.order

  -- histories keep links apart
  pub history-distinct : (steps : List (Act T F)) (start end : State T F) → Distinct start.queues
      → History start steps end → Distinct end.queues
  history-distinct [] start end d run = subst (λ (s : State T F). Distinct s.queues) (sym run) d
  history-distinct (step ∷ steps) start end d run = history-distinct steps run.0 end (step-order 0 step start run.0 d run.1).distinct run.2

  no-frames : (us : List (Outbound T F)) → frames_of us ≡ [] → us ≡ []
  no-frames [] e = refl
  no-frames (u ∷ us) e = absurd cc

  left-empty : (xs ys : List (LinkFrame T F)) → xs ++ ys ≡ [] → (xs ≡ []) × (ys ≡ [])
  left-empty [] ys e = (refl, e)
  left-empty (x ∷ xs) ys e = absurd cc

  -- a link of which nothing waits and nothing is accepted sends nothing
  pub silent : (h : ℕ) (steps : List (Act T F)) (start end : State T F) → Distinct start.queues
      → History start steps end
      → units_of h start.queues ≡ [] → accepted_of h steps ≡ [] → (out_of h steps ≡ []) × (units_of h end.queues ≡ [])
  silent h steps start end d run none nothing =
      let all : out_of h steps ++ waiting_of h end.queues ≡ [] =
      history-order h steps start end d run
      ∙ ap (λ (us : List (Outbound T F)). frames_of us ++ accepted_of h steps) none
      ∙ nothing in
      let both : (out_of h steps ≡ []) × (waiting_of h end.queues ≡ []) = left-empty (out_of h steps) (waiting_of h end.queues) all in
      (both.0, no-frames (units_of h end.queues) both.1)
