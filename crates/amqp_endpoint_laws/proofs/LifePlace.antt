-- Where a link is attached or waits to be: in one place of one session, from the call on by which it attaches.
use Rattle.std.proofs.Common.{◌≡◌, ◌≢◌, ◌⊎◌, inl, inr, ℕ, Bool, true, false, List, [], ◌∷◌, Option, Some, None}
use Rattle.std.proofs.Common.{ap, refl, sym, subst, true≢false, ◌∙◌}
use Rattle.std.proofs.lemmas.Bool.Decides.{eqb_tells}
use Rattle.std.proofs.lemmas.Option.{none-some, same_Some}
use Rattle.amqp_session_types.specs.declared.handles.OutputHandle.{OutputHandle}
use Rattle.amqp_session_core.specs.State.{link_at}
use Rattle.amqp_link.specs.declared.end.End.{End}
use Rattle.amqp_link.specs.declared.end.End.TheVariants.{Receiver, Sender}
use Rattle.amqp_link_receiver.specs.Deliveries.{Delivery}
use Rattle.amqp_session_performatives.specs.declared.session_frame.SessionFrame.{SessionFrame}
use Rattle.amqp_endpoint_model.specs.Said.{Said, attaching}
use Rattle.amqp_endpoint_model.specs.declared.call.Call.{Call}
use Rattle.amqp_endpoint_model.specs.declared.call.Call.TheVariants as call
use Rattle.amqp_endpoint_laws.specs.Deeds.{AreDone, Deed, Does, IsDeed}
use Rattle.amqp_endpoint_laws.specs.Resumed.{IsResumed, Resumes}
use Rattle.amqp_endpoint.specs.Calling.{Calls}
use Rattle.amqp_endpoint.specs.Does.{linked}
use Rattle.amqp_endpoint.specs.declared.linked.LinkedSessions.{LinkedSessions}
use Rattle.amqp_endpoint_linking.specs.Linking.{Link, Session}
use Rattle.amqp_endpoint_tables.specs.OwnLinks.{slot_at}
use Rattle.amqp_endpoint_tables.specs.LinkState.{held_at, open_of, place_of, rest_at, rest_of}
use Rattle.amqp_endpoint_tables.specs.declared.link_place.Named.{Named}
use Rattle.amqp_endpoint_tables.specs.State.{live_at}
use Rattle.amqp_endpoint_laws.specs.Agreeing.{Agree}
use Rattle.amqp_endpoint_laws.specs.Held.{IsHeldThere, number_live, number_of}
use Rattle.amqp_endpoint_laws.proofs.HandedBy.{MovesBy, deed-moves}
use Rattle.amqp_endpoint_laws.proofs.HandedOut.{StandsAlone}
use Rattle.amqp_endpoint_laws.proofs.HeldKept.{agree-kept}
use Rattle.amqp_endpoint_laws.proofs.HoldingEnds.{Holding, IsFresh, Part, held_end, held_if, held_link}
use Rattle.amqp_endpoint_laws.proofs.HoldingTalk.{held_in}
use Rattle.amqp_endpoint_laws.proofs.LinksKept.{BackGoesOn, FinishedGoesOn, LeftGoesOn}
use Rattle.amqp_endpoint_laws.proofs.LinksStay.{entered-before}
use Rattle.amqp_endpoint_laws.proofs.Parted.{holder}
use Rattle.amqp_endpoint_laws.proofs.Placing.{is-again}

module _ (link : ℕ) where
  -- it has its number
  if-number : (number : ℕ) (o : Option Bool) (held : Option Delivery) (x : Part)
      → held_if o number held ≡ Some (link, x) → number ≡ link
  if-number number None held x is = absurd (none-some _ is)
  if-number number (Some attached) held x is =
      ap (λ (p : ℕ × Part). p.0) (same_Some (number, (attached, held)) (link, x) is)

  end-number : (number : ℕ) (e : End) (x : Part) → held_end number e ≡ Some (link, x) → number ≡ link
  end-number number (Sender s) x is = absurd (none-some _ is)
  end-number number (Receiver r) x is = if-number number _ r.end.held x is

  link-number : (l : Option Link) (x : Part) → held_link l ≡ Some (link, x) → number_of l ≡ Some link
  link-number None x is = absurd (none-some _ is)
  link-number (Some l) x is = ap (λ (k : ℕ). Some k) (end-number l.number l.link x is)

  in-number : (o : Option Session) (h : ℕ) (x : Part) → held_in o h ≡ Some (link, x) → number_live o h ≡ Some link
  in-number None h x is = absurd (none-some _ is)
  in-number (Some session) h x is = link-number (link_at session.value.session h) x is

  -- the place that it has
  there-held : (s : LinkedSessions) → Agree s → (n h : ℕ) (x : Part)
      → held_in (live_at s.talk.sessions n) h ≡ Some (link, x) → IsHeldThere s.links link n h
  there-held s a n h x is = a.stands link n h (in-number (live_at s.talk.sessions n) h x is)

  -- where it has no number yet, it is in none
  pub record IsUnentered (s : LinkedSessions) : Type 0 where
    pub agrees : Agree s
    pub none : slot_at s.links link ≡ None

  pub unentered-none : (s : LinkedSessions) → IsUnentered s → (n h : ℕ) (x : Part)
      → held_in (live_at s.talk.sessions n) h ≡ Some (link, x) → ⊥
  unentered-none s new n h x is = by (there-held s new.agrees n h x is)
    where
      by : IsHeldThere s.links link n h → ⊥
      by (inl held) = none-some _ (sym (ap holder new.none) ∙ held)
      by (inr closed) = none-some _ (sym new.none ∙ closed)

  -- it is in one place alone, and holds nothing where it waits
  pub record IsIn (s : LinkedSessions) (n h : ℕ) : Type 0 where
    pub agrees : Agree s
    pub entered : slot_at s.links link ≢ None
    pub alone : StandsAlone s link n h
    pub empty :
        (m g : ℕ) (held : Option Delivery) → held_in (live_at s.talk.sessions m) g ≡ Some (link, (false, held))
        → held ≡ None

  -- or it is in one place alone, whatever it holds
  pub record IsAlone (s : LinkedSessions) (n h : ℕ) : Type 0 where
    pub agrees : Agree s
    pub entered : slot_at s.links link ≢ None
    pub alone : StandsAlone s link n h

  pub alone-in : (s : LinkedSessions) (n h : ℕ) → IsIn s n h → IsAlone s n h
  alone-in s n h i = record { agrees = i.agrees; entered = i.entered; alone = i.alone }

  abbrev pub IsKnown : LinkedSessions → Type 0
  IsKnown s = IsUnentered s ⊎ ((n : ℕ) × (h : ℕ) × IsAlone s n h)

  -- how it came to be there: it was there before
  pub record Stayed (was : Holding) (x : Part) : Type 0 where
    pub part : Part
    pub there : was ≡ Some (link, part)
    pub attached : x.0 ≡ true
    pub kept : part.0 ≡ false → x.1 ≡ part.1

  -- or it has got its number
  pub record Entered (old new : LinkedSessions) (x : Part) : Type 0 where
    pub none : slot_at old.links link ≡ None
    pub unclosed : slot_at new.links link ≢ Some None
    pub empty : x.1 ≡ None

  abbrev pub CameBy : LinkedSessions → LinkedSessions → Holding → Part → Type 0
  CameBy old new was x = (was ≡ Some (link, x)) ⊎ (Stayed was x ⊎ Entered old new x)

  -- or it was at rest, and attaches again
  abbrev pub ComesBy : Deed → LinkedSessions → LinkedSessions → Holding → Part → Type 0
  ComesBy deed old new was x = CameBy old new was x ⊎ IsResumed link deed

  same-of : (number : ℕ) (y x : Part) (is : Holding) → is ≡ Some (number, y) → is ≡ Some (link, x)
      → (number ≡ link) × (x ≡ y)
  same-of number y x is a b =
      let same = same_Some (number, y) (link, x) (sym a ∙ b) in (
        ap (λ (p : ℕ × Part). p.0) same,
        sym (ap (λ (p : ℕ × Part). p.1) same),
      )

  came : (deed : Deed) (old new : LinkedSessions) (was is : Holding) (x : Part) → MovesBy deed old new was is
      → is ≡ Some (link, x) → ComesBy deed old new was x
  came deed old new was is x (inl t) e =
      let (number, same) = same-of t.number (true, t.later) x is t.is e in
      inl (inr (inl (record {
        part = (true, t.held);
        there = t.was ∙ ap (λ (k : ℕ). Some (k, (true, t.held))) number;
        attached = ap (λ (p : Part). p.0) same;
        kept = λ waits. absurd (true≢false waits);
      })))
  came deed old new was is x (inr (inl t)) e = by t.fresh
    where
      entered : (part : Part) → is ≡ Some (t.number, part) → (slot_at old.links t.number ≡ None → part.1 ≡ None)
          → (slot_at old.links t.number ≡ None) ⊎ IsResumed t.number deed → ComesBy deed old new was x
      entered part so empty (inl none) =
          let (number, same) = same-of t.number part x is so e in
          inl (inr (inr (record {
            none = ap (slot_at old.links) (sym number) ∙ none;
            unclosed = λ closed. t.there (ap (slot_at new.links) number ∙ closed);
            empty = ap (λ (p : Part). p.1) same ∙ empty none;
          })))
      entered part so empty (inr resumed) =
          let (number, same) = same-of t.number part x is so e in
          inr (subst (λ (k : ℕ). IsResumed k deed) number resumed)

      by : IsFresh (slot_at old.links t.number ≡ None) t.number is → ComesBy deed old new was x
      by (inl none) = absurd (none-some _ (sym none ∙ e))
      by (inr (part, so, empty)) = entered part so empty t.came
  came deed old new was is x (inr (inr (inl t))) e =
      let (number, same) = same-of t.number (true, t.held) x is t.is e in
      inl (inr (inl (record {
        part = (false, t.held);
        there = t.was ∙ ap (λ (k : ℕ). Some (k, (false, t.held))) number;
        attached = ap (λ (p : Part). p.0) same;
        kept = λ waits. ap (λ (p : Part). p.1) same;
      })))
  came deed old new was is x (inr (inr (inr (inl same)))) e = inl (inl (sym same ∙ e))
  came deed old new was is x (inr (inr (inr (inr gone)))) e = absurd (none-some _ (sym gone ∙ e))

  -- what attaches again was at rest, and is held from then on
  record Again (old new : LinkedSessions) : Type 0 where
    unheld : held_at old.links link ≡ None
    unclosed : slot_at old.links link ≢ Some None
    entered : slot_at old.links link ≢ None
    session : ℕ
    handle : OutputHandle
    held : held_at new.links link ≡ Some (session, handle)

  again-by : (it : Call) (answer : Said) (limit : ℕ) (frames : List SessionFrame) (old new : LinkedSessions)
      → Calls old limit it answer frames new → Resumes link it → Again old new
  again-by (call.Resume number n) (attaching one events) limit frames old new c is =
      let p = is-again old.talk new.talk old.links new.links limit n number one events frames c in
      let same : p.placed.link ≡ link = sym p.numbered ∙ is in
      record {
        unheld = ap (held_at old.links) (sym same) ∙ p.vacant;
        unclosed = λ closed. p.unclosed (ap (slot_at old.links) same ∙ closed);
        entered = λ none.
            none-some c.resumes.link
            (sym (ap (λ (o : Option (Option (Named End))). rest_of (place_of (open_of o))) none)
            ∙ ap (rest_at old.links) (sym is) ∙ c.resumes.may.rests);
        session = n;
        handle = p.placed.handle;
        held = ap (held_at new.links) (sym same) ∙ p.held;
      }
  again-by (call.Resume number n) answer limit frames old new c is = absurd c
  again-by it answer limit frames old new c is = absurd is

  again-so : (deed : Deed) (old new : LinkedSessions) → IsDeed linked old deed new → IsResumed link deed
      → Again old new
  again-so (Does limit it answer frames) old new d is = again-by it answer limit frames old new d.0 is
  again-so deed old new d is = absurd is

  resumes-or-not : (it : Call) → Resumes link it ⊎ (Resumes link it → ⊥)
  resumes-or-not (call.Resume number n) =
      elim (eqb_tells number link) [ inl same ↦ inl same.1 | inr apart ↦ inr apart.1 ]
  resumes-or-not it = inr (λ is. is)

  resumed-or-not : (deed : Deed) → IsResumed link deed ⊎ (IsResumed link deed → ⊥)
  resumed-or-not (Does limit it answer frames) = resumes-or-not it
  resumed-or-not deed = inr (λ is. is)

  module _ (deed : Deed) (old new : LinkedSessions) (d : IsDeed linked old deed new) where
    comes-so : (n h : ℕ) (x : Part) → held_in (live_at new.talk.sessions n) h ≡ Some (link, x)
        → ComesBy deed old new (held_in (live_at old.talk.sessions n) h) x
    comes-so n h x is =
        came deed old new (held_in (live_at old.talk.sessions n) h) (held_in (live_at new.talk.sessions n) h) x
        (deed-moves deed old new d n h) is

    pub came-so : (IsResumed link deed → ⊥) → (n h : ℕ) (x : Part)
        → held_in (live_at new.talk.sessions n) h ≡ Some (link, x)
        → CameBy old new (held_in (live_at old.talk.sessions n) h) x
    came-so never n h x is = elim (comes-so n h x is) [ inl by ↦ by | inr resumed ↦ absurd (never resumed) ]

    -- a link that gets its number by this deed
    module _ (was : IsUnentered old) where
      pub unresumed : IsResumed link deed → ⊥
      unresumed is = (again-so deed old new d is).entered was.none

      fresh : (n h : ℕ) (x : Part) → held_in (live_at new.talk.sessions n) h ≡ Some (link, x) → Entered old new x
      fresh n h x is = by (came-so unresumed n h x is)
        where
          by : CameBy old new (held_in (live_at old.talk.sessions n) h) x → Entered old new x
          by (inl there) = absurd (unentered-none old was n h x there)
          by (inr (inl s)) = absurd (unentered-none old was n h s.part s.there)
          by (inr (inr e)) = e

      agrees : Agree new
      agrees = agree-kept old new deed d was.agrees

      held-so : (n h : ℕ) (x : Part) → held_in (live_at new.talk.sessions n) h ≡ Some (link, x)
          → held_at new.links link ≡ Some (n, record { 0 = h })
      held-so n h x is = by (there-held new agrees n h x is)
        where
          by : IsHeldThere new.links link n h → held_at new.links link ≡ Some (n, record { 0 = h })
          by (inl held) = held
          by (inr closed) = absurd ((fresh n h x is).unclosed closed)

      first-at : slot_at new.links link ≢ None → (o : Option (ℕ × OutputHandle)) → held_at new.links link ≡ o
          → (n : ℕ) × (h : ℕ) × IsIn new n h
      first-at entered None none = (
        0,
        0,
        record {
          agrees = agrees;
          entered = entered;
          alone = λ m g x is. absurd (none-some _ (sym none ∙ held-so m g x is));
          empty = λ m g held is. absurd (none-some _ (sym none ∙ held-so m g (false, held) is));
        },
      )
      first-at entered (Some (n, h)) at = (
        n,
        h.0,
        record {
          agrees = agrees;
          entered = entered;
          alone = λ m g x is.
              let same = same_Some (m, record { 0 = g }) (n, h) (sym (held-so m g x is) ∙ at) in
              (ap (λ (p : ℕ × OutputHandle). p.0) same, ap (λ (p : ℕ × OutputHandle). p.1.0) same);
          empty = λ m g held is. (fresh m g (false, held) is).empty;
        },
      )

      pub known-first : IsUnentered new ⊎ ((n : ℕ) × (h : ℕ) × IsIn new n h)
      known-first = by (slot_at new.links link) refl
        where
          by : (o : Option _) → slot_at new.links link ≡ o
              → IsUnentered new ⊎ ((n : ℕ) × (h : ℕ) × IsIn new n h)
          by None none = inl (record { agrees = agrees; none = none })
          by (Some slot) is = inr (first-at (λ none. none-some slot (sym none ∙ is)) (held_at new.links link) refl)

    -- and one that has it
    module _ (back_on : BackGoesOn) (left_on : LeftGoesOn) (finished_on : FinishedGoesOn) where
      entered-on : (n h : ℕ) → slot_at old.links link ≢ None → slot_at new.links link ≢ None
      entered-on n h e = entered-before link n (record { 0 = h }) back_on left_on finished_on deed old new d e

      alone-on : (n h : ℕ) → (IsResumed link deed → ⊥) → IsAlone old n h → StandsAlone new link n h
      alone-on n h never was m g x is = there (came-so never m g x is)
        where
          there : CameBy old new (held_in (live_at old.talk.sessions m) g) x → (m ≡ n) × (g ≡ h)
          there (inl is) = was.alone m g x is
          there (inr (inl s)) = was.alone m g s.part s.there
          there (inr (inr e)) = absurd (was.entered e.none)

      pub stays-in : (IsResumed link deed → ⊥) → (n h : ℕ) → IsIn old n h → IsIn new n h
      stays-in never n h was =
          record {
            agrees = agree-kept old new deed d was.agrees;
            entered = entered-on n h was.entered;
            alone = alone-on n h never (alone-in old n h was);
            empty = λ m g held is. waits m g held (came-so never m g (false, held) is);
          }
        where
          waits : (m g : ℕ) (held : Option Delivery)
              → CameBy old new (held_in (live_at old.talk.sessions m) g) (false, held) → held ≡ None
          waits m g held (inl is) = was.empty m g held is
          waits m g held (inr (inl s)) = absurd (true≢false (sym s.attached))
          waits m g held (inr (inr e)) = e.empty

      pub stays-alone : (IsResumed link deed → ⊥) → (n h : ℕ) → IsAlone old n h → IsAlone new n h
      stays-alone never n h was =
          record {
            agrees = agree-kept old new deed d was.agrees;
            entered = entered-on n h was.entered;
            alone = alone-on n h never was;
          }

      -- and so does one that is there
      pub stays-held : (n h : ℕ) → IsAlone old n h → (held : Option Delivery)
          → held_in (live_at old.talk.sessions n) h ≡ Some (link, (true, held)) → IsAlone new n h
      stays-held n h was held is =
          stays-alone (λ resumed. unheld (again-so deed old new d resumed) (there-held old was.agrees n h _ is)) n h was
        where
          unheld : Again old new → IsHeldThere old.links link n h → ⊥
          unheld a (inl there) = none-some _ (sym a.unheld ∙ there)
          unheld a (inr closed) = a.unclosed closed

      -- one that attaches again is in one place from then on
      again-alone : (n h : ℕ) → IsAlone old n h → (a : Again old new) → IsAlone new a.session a.handle.0
      again-alone n h was a =
          record {
            agrees = agrees;
            entered = entered-on n h was.entered;
            alone = λ m g x is. there m g (there-held new agrees m g x is);
          }
        where
          agrees : Agree new
          agrees = agree-kept old new deed d was.agrees

          there : (m g : ℕ) → IsHeldThere new.links link m g → (m ≡ a.session) × (g ≡ a.handle.0)
          there m g (inl held) =
              let same = same_Some (m, record { 0 = g }) (a.session, a.handle) (sym held ∙ a.held) in
              (ap (λ (p : ℕ × OutputHandle). p.0) same, ap (λ (p : ℕ × OutputHandle). p.1.0) same)
          there m g (inr closed) = absurd (none-some _ (sym (ap holder closed) ∙ a.held))

      known-placed : (n h : ℕ) → IsAlone old n h → (m : ℕ) × (g : ℕ) × IsAlone new m g
      known-placed n h was =
          elim (resumed-or-not deed) [
            | inl is ↦ let a = again-so deed old new d is in (a.session, a.handle.0, again-alone n h was a)
            | inr never ↦ (n, h, stays-alone never n h was)
          ]

      pub known-on : IsKnown old → IsKnown new
      known-on (inl was) =
          elim (known-first was) [
            | inl still ↦ inl still
            | inr (n, h, i) ↦ inr (n, h, alone-in new n h i)
          ]
      known-on (inr (n, h, was)) = inr (known-placed n h was)

  pub known-done : BackGoesOn → LeftGoesOn → FinishedGoesOn → (deeds : List Deed) (old new : LinkedSessions)
      → AreDone linked old deeds new → IsKnown old → IsKnown new
  known-done back_on left_on finished_on [] old new same k = subst IsKnown (sym same) k
  known-done back_on left_on finished_on (deed ∷ deeds) old new (mid, one, rest) k =
      known-done back_on left_on finished_on deeds mid new rest
      (known-on deed old mid one back_on left_on finished_on k)
