-- Over the whole life of a link what is handed out by it is what the transfers say that reach it.
use Rattle.std.proofs.Common.{◌≡◌, ◌⊎◌, inl, inr, ℕ, true, false, List, [], ◌∷◌, ◌++◌, Option, Some}
use Rattle.std.proofs.Common.{None, ap, append_assoc, map, refl, sym, subst, true≢false, ◌∙◌}
use Rattle.std.proofs.lemmas.Bool.Decides.{eqb_tells}
use Rattle.std.proofs.lemmas.List.{append-nil}
use Rattle.std.proofs.lemmas.Option.{none-some, same_Some}
use Rattle.amqp_session_types.specs.declared.handles.OutputHandle.{OutputHandle}
use Rattle.amqp_link_base.specs.Readings.{Piece, Reading, nothing, readings}
use Rattle.amqp_link_receiver.specs.Deliveries.{Delivery}
use Rattle.amqp_link_receiver.specs.Readings.{held_said}
use Rattle.amqp_endpoint_laws.specs.Deeds.{AreDone, Deed, IsDeed, told_by, told_in}
use Rattle.amqp_endpoint.specs.Does.{linked}
use Rattle.amqp_endpoint.specs.declared.linked.LinkedSessions.{LinkedSessions}
use Rattle.amqp_endpoint_tables.specs.State.{live_at}
use Rattle.amqp_endpoint_laws.specs.Handed.{Handed, NoneResumes, handed_as, handed_by, pieces_in}
use Rattle.amqp_endpoint_laws.specs.Life.{Reach, ReachBy, StaysAttached, StaysSomewhere}
use Rattle.amqp_endpoint_laws.specs.Resumed.{IsResumed, NeverResumed}
use Rattle.amqp_endpoint_laws.proofs.ComesAttachedHeld.{holding-receives}
use Rattle.amqp_endpoint_laws.proofs.HandedBy.{deed-hands, deed-says}
use Rattle.amqp_endpoint_laws.proofs.HandedOut.{Receives, Says, StandsAlone, handed-both, is-receiving}
use Rattle.amqp_endpoint_laws.proofs.HandedOut.{none-resume, readings-both, receives-holds, receives-so}
use Rattle.amqp_endpoint_laws.proofs.HoldingEnds.{Holding, Part}
use Rattle.amqp_endpoint_laws.proofs.HoldingTalk.{held_in}
use Rattle.amqp_endpoint_laws.proofs.LifePlace.{CameBy, IsIn, IsUnentered, came-so}
use Rattle.amqp_endpoint_laws.proofs.LifePlace.{known-first, stays-in, unentered-none}
use Rattle.amqp_endpoint_laws.proofs.LinksKept.{BackGoesOn, FinishedGoesOn, LeftGoesOn}

-- a link that is held so receives
pub holds-receives : (s : LinkedSessions) (link session : ℕ) (own : OutputHandle) (held : Option Delivery)
    → held_in (live_at s.talk.sessions session) own.0 ≡ Some (link, (true, held)) → Receives s link session own held
holds-receives s link session own held h =
    receives-so s link session own held (holding-receives s link session own held h)

module _ (link : ℕ) where
  -- the link is attached in this place
  pub record IsOn (s : LinkedSessions) (n h : ℕ) : Type 0 where
    pub held : Option Delivery
    pub on : held_in (live_at s.talk.sessions n) h ≡ Some (link, (true, held))

  number-on : (was : Holding) (number : ℕ) (part : Part) → was ≡ Some (number, part)
      → ((held : Option Delivery) × (was ≡ Some (link, (true, held))))
      ⊎ ((held : Option Delivery) → was ≡ Some (link, (true, held)) → ⊥)
  number-on was number (false, v) e =
      inr (λ held is.
      true≢false
      (sym (ap (λ (p : ℕ × Part). p.1.0)
      (same_Some (number, (false, v)) (link, (true, held)) (sym e ∙ is)))))
  number-on was number (true, v) e =
      elim (eqb_tells number link) [
        | inl same ↦ inl (v, e ∙ ap (λ (k : ℕ). Some (k, (true, v))) same.1)
        | inr apart ↦
            inr (λ held is.
            apart.1
            (ap (λ (p : ℕ × Part). p.0)
            (same_Some (number, (true, v)) (link, (true, held)) (sym e ∙ is))))
      ]

  holding-on : (was : Holding)
      → ((held : Option Delivery) × (was ≡ Some (link, (true, held))))
      ⊎ ((held : Option Delivery) → was ≡ Some (link, (true, held)) → ⊥)
  holding-on None = inr (λ held is. none-some _ is)
  holding-on (Some (number, part)) = number-on (Some (number, part)) number part refl

  pub on-or-not : (s : LinkedSessions) (n h : ℕ) → IsOn s n h ⊎ (IsOn s n h → ⊥)
  on-or-not s n h =
      elim (holding-on (held_in (live_at s.talk.sessions n) h)) [
        | inl (held, is) ↦ inl (record { held = held; on = is })
        | inr none ↦ inr (λ on. none on.held on.on)
      ]

  -- where it stays attached by a deed, it is so in its one place
  stays-on-at : (old mid : LinkedSessions) (n h session : ℕ) (own : OutputHandle) → IsIn link old n h
      → StaysAttached old mid link session own → (session ≡ n) × (own.0 ≡ h)
  stays-on-at old mid n h session own i st =
      i.alone session own.0 (true, st.held)
      (receives-holds old link session own st.held (receives-so old link session own st.held st.before))

  same-place : (s : LinkedSessions) (n h session : ℕ) (own : OutputHandle) → session ≡ n → own.0 ≡ h
      → held_in (live_at s.talk.sessions session) own.0 ≡ held_in (live_at s.talk.sessions n) h
  same-place s n h session own in_it by_it =
      ap (λ (k : ℕ). held_in (live_at s.talk.sessions k) own.0) in_it
      ∙ ap (λ (k : ℕ). held_in (live_at s.talk.sessions n) k) by_it

  pub was-on : (old mid : LinkedSessions) (n h : ℕ) → IsIn link old n h → StaysSomewhere old mid link → IsOn old n h
  was-on old mid n h i (session, own, st) =
      let (in_it, by_it) = stays-on-at old mid n h session own i st in
      record {
        held = st.held;
        on = sym (same-place old n h session own in_it by_it)
            ∙ receives-holds old link session own st.held (receives-so old link session own st.held st.before);
      }

  is-on : (old mid : LinkedSessions) (n h : ℕ) → IsIn link old n h → StaysSomewhere old mid link → IsOn mid n h
  is-on old mid n h i (session, own, st) =
      let (in_it, by_it) = stays-on-at old mid n h session own i st in
      record {
        held = st.later;
        on = sym (same-place mid n h session own in_it by_it)
            ∙ receives-holds mid link session own st.later (receives-so mid link session own st.later st.behind);
      }

  both-on : (old mid : LinkedSessions) (n h : ℕ) → IsOn old n h → IsOn mid n h
      → StaysAttached old mid link n (record { 0 = h })
  both-on old mid n h a b =
      let own : OutputHandle = record { 0 = h } in
      record {
        held = a.held;
        later = b.held;
        before = is-receiving old link n own a.held (holds-receives old link n own a.held a.on);
        behind = is-receiving mid link n own b.held (holds-receives mid link n own b.held b.on);
      }

  -- where it doesn't, nothing is handed out by it, and nothing reaches it
  pub none-handed-so : (deed : Deed) (old mid : LinkedSessions) → IsDeed linked old deed mid
      → (StaysSomewhere old mid link → ⊥) → handed_by link (told_in deed) ≡ []
  none-handed-so deed old mid d apart =
      elim (deed-hands deed old mid link d) [ inl none ↦ none | inr stays ↦ absurd (apart stays) ]

  none-reach : (session : ℕ) (own : OutputHandle) (deed : Deed) (old mid : LinkedSessions) (first : List Piece)
      → ReachBy link session own old deed mid first → (StaysSomewhere old mid link → ⊥) → first ≡ []
  none-reach session own deed old mid first (inl (st, is)) apart = absurd (apart (session, own, st))
  none-reach session own deed old mid first (inr (none, is)) apart = is

  module _ (session : ℕ) (own : OutputHandle) where
    -- what is read of the transfers that reach it, and what is handed out by it
    abbrev Tells : Reading → List Piece → List Deed → Type 0
    Tells reading pieces deeds =
        map (handed_as own) (readings reading pieces).messages ≡
        map (handed_as own) reading.messages ++ handed_by link (told_by deeds)

    tells-on : (reading : Reading) (pieces first later : List Piece) (deed : Deed) (deeds : List Deed)
        → pieces ≡ first ++ later
        → (map (handed_as own) (readings reading first).messages ≡
        map (handed_as own) reading.messages ++ handed_by link (told_in deed))
        → Tells (readings reading first) later deeds → Tells reading pieces (deed ∷ deeds)
    tells-on reading pieces first later deed deeds is one rest =
        ap (λ (ps : List Piece). map (handed_as own) (readings reading ps).messages) is
        ∙ ap (λ (x : Reading). map (handed_as own) x.messages) (readings-both reading first later) ∙ rest
        ∙ ap (λ (hs : List Handed). hs ++ handed_by link (told_by deeds)) one
        ∙ append_assoc (map (handed_as own) reading.messages) (handed_by link (told_in deed))
        (handed_by link (told_by deeds))
        ∙ ap (λ (hs : List Handed). map (handed_as own) reading.messages ++ hs)
        (sym (handed-both link (told_in deed) (told_by deeds)))

    tells-none : (reading : Reading) (pieces first later : List Piece) (deed : Deed) (deeds : List Deed)
        → pieces ≡ first ++ later → first ≡ [] → handed_by link (told_in deed) ≡ [] → Tells reading later deeds
        → Tells reading pieces (deed ∷ deeds)
    tells-none reading pieces first later deed deeds is none silent rest =
        ap (λ (ps : List Piece). map (handed_as own) (readings reading ps).messages)
        (is ∙ ap (λ (ps : List Piece). ps ++ later) none)
        ∙ rest
        ∙ ap (λ (hs : List Handed). map (handed_as own) reading.messages ++ (hs ++ handed_by link (told_by deeds)))
        (sym silent)
        ∙ ap (λ (hs : List Handed). map (handed_as own) reading.messages ++ hs)
        (sym (handed-both link (told_in deed) (told_by deeds)))

    tells-nothing : (reading : Reading) (pieces : List Piece) → pieces ≡ [] → Tells reading pieces []
    tells-nothing reading pieces none =
        ap (λ (ps : List Piece). map (handed_as own) (readings reading ps).messages) none
        ∙ sym (append-nil (map (handed_as own) reading.messages))

    module _ (back_on : BackGoesOn) (left_on : LeftGoesOn) (finished_on : FinishedGoesOn) where
      on-in : (deed : Deed) (old mid : LinkedSessions) (n h : ℕ) → (IsResumed link deed → ⊥)
          → IsDeed linked old deed mid → IsIn link old n h → IsIn link mid n h
      on-in deed old mid n h never d i = stays-in link deed old mid d back_on left_on finished_on never n h i

      -- once its attachment ended
      pub stays-gone : (deed : Deed) (old mid : LinkedSessions) (n h : ℕ) → (IsResumed link deed → ⊥)
          → IsDeed linked old deed mid → IsIn link old n h
          → ((x : Part) → held_in (live_at old.talk.sessions n) h ≡ Some (link, x) → x.0 ≡ true)
          → (IsOn mid n h → ⊥) → (x : Part) → held_in (live_at mid.talk.sessions n) h ≡ Some (link, x) → ⊥
      stays-gone deed old mid n h never d i was off x is = by x is (came-so link deed old mid d never n h x is)
        where
          on : (y : Part) → held_in (live_at mid.talk.sessions n) h ≡ Some (link, y) → y.0 ≡ true → ⊥
          on (true, v) is e = off (record { held = v; on = is })
          on (false, v) is e = true≢false (sym e)

          by : (y : Part) → held_in (live_at mid.talk.sessions n) h ≡ Some (link, y)
              → CameBy link old mid (held_in (live_at old.talk.sessions n) h) y → ⊥
          by y is (inl same) = on y is (was y same)
          by y is (inr (inl s)) = on y is s.attached
          by y is (inr (inr e)) = i.entered e.none

      gone-tells : (deeds : List Deed) (old new : LinkedSessions) (pieces : List Piece) (n h : ℕ)
          → NeverResumed link deeds → IsIn link old n h
          → ((x : Part) → held_in (live_at old.talk.sessions n) h ≡ Some (link, x) → ⊥)
          → Reach link session own old deeds new pieces → (reading : Reading) → Tells reading pieces deeds
      gone-tells [] old new pieces n h never i gone (same, none) reading = tells-nothing reading pieces none
      gone-tells (deed ∷ deeds) old new pieces n h never i gone (mid, first, later, d, by, rest, is) reading =
          let apart : StaysSomewhere old mid link → ⊥ =
          λ st. let on = was-on old mid n h i st in gone (true, on.held) on.on in
          let gone_mid = stays-gone deed old mid n h never.0 d i (λ x there. absurd (gone x there))
          (λ on. elim (came-so link deed old mid d never.0 n h (true, on.held) on.on) [
            | inl there ↦ gone (true, on.held) there
            | inr (inl s) ↦ gone s.part s.there
            | inr (inr e) ↦ i.entered e.none
          ]) in
          tells-none reading pieces first later deed deeds is (none-reach session own deed old mid first by apart)
          (none-handed-so deed old mid d apart)
          (gone-tells deeds mid new later n h never.1 (on-in deed old mid n h never.0 d i) gone_mid rest reading)

      -- while it is attached
      still-tells : (deed : Deed) (deeds : List Deed) (old mid : LinkedSessions) (pieces first later : List Piece)
          (n h : ℕ) → IsIn link old n h → IsDeed linked old deed mid → pieces ≡ first ++ later → (reading : Reading)
          → held_in (live_at old.talk.sessions n) h ≡ Some (link, (true, held_said reading.held)) → IsOn mid n h
          → NoneResumes pieces
          → ((next : Reading) → held_in (live_at mid.talk.sessions n) h ≡ Some (link, (true, held_said next.held))
          → NoneResumes later → Tells next later deeds)
          → ReachBy link session own old deed mid first → Tells reading pieces (deed ∷ deeds)
      still-tells deed deeds old mid pieces first later n h i d is reading on so fresh tells (inr (none, empty)) =
          absurd
          (none
          (n, record { 0 = h }, both-on old mid n h (record { held = held_said reading.held; on = on }) so))
      still-tells deed deeds old mid pieces first later n h i d is reading on so fresh tells (inl (st, reach)) =
          let (in_it, by_it) = stays-on-at old mid n h session own i st in
          let alone : StandsAlone old link session own.0 =
          λ other handle x e.
          let (a, b) = i.alone other handle x e in (a ∙ sym in_it, b ∙ sym by_it) in
          let (none, more) = none-resume first later (subst NoneResumes is fresh) in
          let one : Says own reading first (handed_by link (told_in deed)) so.held =
          subst (λ (ps : List Piece). Says own reading ps (handed_by link (told_in deed)) so.held) (sym reach)
          (deed-says link session own deed old mid d reading so.held
          (holds-receives old link session own (held_said reading.held)
          (same-place old n h session own in_it by_it ∙ on))
          (holds-receives mid link session own so.held (same-place mid n h session own in_it by_it ∙ so.on)) alone
          (subst NoneResumes reach none)) in
          tells-on reading pieces first later deed deeds is one.messages
          (tells (readings reading first)
          (so.on ∙ ap (λ (v : Option Delivery). Some (link, (true, v))) one.holds) more)

      on-tells : (deeds : List Deed) (old new : LinkedSessions) (pieces : List Piece) (n h : ℕ)
          → NeverResumed link deeds → IsIn link old n h → (reading : Reading)
          → held_in (live_at old.talk.sessions n) h ≡ Some (link, (true, held_said reading.held))
          → Reach link session own old deeds new pieces → NoneResumes pieces → Tells reading pieces deeds
      on-tells [] old new pieces n h never i reading on (same, none) fresh = tells-nothing reading pieces none
      on-tells (deed ∷ deeds) old new pieces n h never i reading on (mid, first, later, d, by, rest, is) fresh =
          elim (on-or-not mid n h) [
            | inl so ↦
                still-tells deed deeds old mid pieces first later n h i d is reading on so fresh
                (λ next o more.
                on-tells deeds mid new later n h never.1 (on-in deed old mid n h never.0 d i) next o rest more)
                by
            | inr off ↦
                let apart : StaysSomewhere old mid link → ⊥ = λ st. off (is-on old mid n h i st) in
                let was : (x : Part) → held_in (live_at old.talk.sessions n) h ≡ Some (link, x) → x.0 ≡ true =
                λ x there.
                ap (λ (p : ℕ × Part). p.1.0)
                (same_Some (link, x) (link, (true, held_said reading.held)) (sym there ∙ on)) in
                tells-none reading pieces first later deed deeds is
                (none-reach session own deed old mid first by apart) (none-handed-so deed old mid d apart)
                (gone-tells deeds mid new later n h never.1 (on-in deed old mid n h never.0 d i)
                (stays-gone deed old mid n h never.0 d i was off) rest reading)
          ]

      -- before that
      off-tells : (deeds : List Deed) (old new : LinkedSessions) (pieces : List Piece) (n h : ℕ)
          → NeverResumed link deeds → IsIn link old n h → (IsOn old n h → ⊥)
          → Reach link session own old deeds new pieces → NoneResumes pieces
          → Tells nothing pieces deeds
      off-tells [] old new pieces n h never i off (same, none) fresh = tells-nothing nothing pieces none
      off-tells (deed ∷ deeds) old new pieces n h never i off (mid, first, later, d, by, rest, is) fresh =
          let apart : StaysSomewhere old mid link → ⊥ = λ st. off (was-on old mid n h i st) in
          let none = none-reach session own deed old mid first by apart in
          let more = (none-resume first later (subst NoneResumes is fresh)).1 in
          tells-none nothing pieces first later deed deeds is none (none-handed-so deed old mid d apart)
          (elim (on-or-not mid n h) [
            | inl so ↦
                on-tells deeds mid new later n h never.1 (on-in deed old mid n h never.0 d i) nothing
                (so.on
                ∙ ap (λ (v : Option Delivery). Some (link, (true, v)))
                (newly so (came-so link deed old mid d never.0 n h (true, so.held) so.on)))
                rest more
            | inr still ↦
                off-tells deeds mid new later n h never.1 (on-in deed old mid n h never.0 d i) still rest more
          ])
        where
          waited : (part : Part) → held_in (live_at old.talk.sessions n) h ≡ Some (link, part) → part.0 ≡ false
          waited (true, v) there = absurd (off (record { held = v; on = there }))
          waited (false, v) there = refl

          waits : (part : Part) → held_in (live_at old.talk.sessions n) h ≡ Some (link, part) → part.1 ≡ None
          waits (true, v) there = absurd (off (record { held = v; on = there }))
          waits (false, v) there = i.empty n h v there

          newly : (so : IsOn mid n h) → CameBy link old mid (held_in (live_at old.talk.sessions n) h) (true, so.held)
              → so.held ≡ None
          newly so (inl there) = absurd (off (record { held = so.held; on = there }))
          newly so (inr (inl s)) = s.kept (waited s.part s.there) ∙ waits s.part s.there
          newly so (inr (inr e)) = e.empty

      -- and before it had a number
      pub unentered-tells : (deeds : List Deed) (old new : LinkedSessions) (pieces : List Piece)
          → NeverResumed link deeds → IsUnentered link old → Reach link session own old deeds new pieces
          → NoneResumes pieces → Tells nothing pieces deeds
      unentered-tells [] old new pieces never u (same, none) fresh = tells-nothing nothing pieces none
      unentered-tells (deed ∷ deeds) old new pieces never u (mid, first, later, d, by, rest, is) fresh =
          let apart : StaysSomewhere old mid link → ⊥ =
          λ st.
          let (in_it, by_it, stays) = st in
          unentered-none link old u in_it by_it.0 (true, stays.held)
          (receives-holds old link in_it by_it stays.held (receives-so old link in_it by_it stays.held stays.before)) in
          let more = (none-resume first later (subst NoneResumes is fresh)).1 in
          tells-none nothing pieces first later deed deeds is (none-reach session own deed old mid first by apart)
          (none-handed-so deed old mid d apart)
          (elim (known-first link deed old mid d u) [
            | inl next ↦ unentered-tells deeds mid new later never.1 next rest more
            | inr (n, h, i) ↦ elim (on-or-not mid n h) [
              | inl so ↦
                  on-tells deeds mid new later n h never.1 i nothing
                  (so.on
                  ∙ ap (λ (v : Option Delivery). Some (link, (true, v)))
                  (newly n h so (came-so link deed old mid d never.0 n h (true, so.held) so.on)))
                  rest more
              | inr off ↦ off-tells deeds mid new later n h never.1 i off rest more
            ]
          ])
        where
          newly : (n h : ℕ) (so : IsOn mid n h)
              → CameBy link old mid (held_in (live_at old.talk.sessions n) h) (true, so.held) → so.held ≡ None
          newly n h so (inl there) = absurd (unentered-none link old u n h (true, so.held) there)
          newly n h so (inr (inl s)) = absurd (unentered-none link old u n h s.part s.there)
          newly n h so (inr (inr e)) = e.empty

  -- such transfers there are
  module _ (back_on : BackGoesOn) (left_on : LeftGoesOn) (finished_on : FinishedGoesOn) where
    abbrev Some-reach : ℕ → OutputHandle → LinkedSessions → List Deed → LinkedSessions → Type 0
    Some-reach session own old deeds new = (pieces : List Piece) × Reach link session own old deeds new pieces

    reach-from : (session : ℕ) (own : OutputHandle) (deed : Deed) (deeds : List Deed) (old mid new : LinkedSessions)
        → IsDeed linked old deed mid → (first : List Piece) → ReachBy link session own old deed mid first
        → Some-reach session own mid deeds new → Some-reach session own old (deed ∷ deeds) new
    reach-from session own deed deeds old mid new d first by (later, rest) =
        (first ++ later, (mid, first, later, d, by, rest, refl))

    reach-in : (deeds : List Deed) (old new : LinkedSessions) (n h : ℕ) → NeverResumed link deeds → IsIn link old n h
        → AreDone linked old deeds new → Some-reach n (record { 0 = h }) old deeds new
    reach-in [] old new n h never i same = ([], (same, refl))
    reach-in (deed ∷ deeds) old new n h never i (mid, d, rest) =
        let own : OutputHandle = record { 0 = h } in
        let more =
        reach-in deeds mid new n h never.1
        (stays-in link deed old mid d back_on left_on finished_on never.0 n h i) rest in
        elim (on-or-not old n h) [
          | inl a ↦ elim (on-or-not mid n h) [
            | inl b ↦
                reach-from n own deed deeds old mid new d (pieces_in n own old deed)
                (inl (both-on old mid n h a b, refl)) more
            | inr off ↦
                reach-from n own deed deeds old mid new d [] (inr ((λ st. off (is-on old mid n h i st)), refl)) more
          ]
          | inr off ↦
              reach-from n own deed deeds old mid new d [] (inr ((λ st. off (was-on old mid n h i st)), refl)) more
        ]

    pub reach-some : (deeds : List Deed) (old new : LinkedSessions) → NeverResumed link deeds → IsUnentered link old
        → AreDone linked old deeds new
        → (session : ℕ) × (own : OutputHandle) × (pieces : List Piece) × Reach link session own old deeds new pieces
    reach-some [] old new never u same = (0, record { 0 = 0 }, [], (same, refl))
    reach-some (deed ∷ deeds) old new never u (mid, d, rest) =
        let apart : StaysSomewhere old mid link → ⊥ =
        λ st.
        let (in_it, by_it, stays) = st in
        unentered-none link old u in_it by_it.0 (true, stays.held)
        (receives-holds old link in_it by_it stays.held (receives-so old link in_it by_it stays.held stays.before)) in
        elim (known-first link deed old mid d u) [
          | inl next ↦
              let (session, own, later, reach) = reach-some deeds mid new never.1 next rest in
              let (pieces, all) =
              reach-from session own deed deeds old mid new d [] (inr (apart, refl)) (later, reach) in
              (session, own, pieces, all)
          | inr (n, h, i) ↦
              let own : OutputHandle = record { 0 = h } in
              let (pieces, all) =
              reach-from n own deed deeds old mid new d [] (inr (apart, refl))
              (reach-in deeds mid new n h never.1 i rest)
              in
              (n, own, pieces, all)
        ]
