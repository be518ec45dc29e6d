-- Links stand where they are held, whatever becomes of them.
use Rattle.std.proofs.Common.{◌≡◌, ◌==◌, ◌⊎◌, inl, inr, ℕ, Bool, true, false, Some, None, ap, refl}
use Rattle.std.proofs.Common.{subst, sym, ◌∙◌}
use Rattle.std.proofs.lemmas.Option.{none-some, same_Some}
use Rattle.amqp_session_types.specs.declared.handles.OutputHandle.{OutputHandle}
use Rattle.amqp_endpoint_tables.specs.OwnLinks.{slot_at}
use Rattle.amqp_endpoint_tables.specs.LinkState.{State, held_at}
use Rattle.amqp_endpoint_tables.proofs.OwningLinks.{same_number}
use Rattle.amqp_endpoint_laws.specs.Held.{Agrees, IsHeldThere, Numbers}
use Rattle.amqp_endpoint_laws.proofs.Parted.{ComesIn, Parted, Shut, holder}

-- the same numbers stand everywhere
abbrev pub Same : Numbers → Numbers → Type 0
Same old new = (session handle : ℕ) → new session handle ≡ old session handle

module _ {L : Type 0} (old new : Numbers) (links links_new : State L) where
  pub stay : Same old new → links_new ≡ links → Agrees old links → Agrees new links_new
  stay same is a =
      subst (λ (l : State L). Agrees new l) (sym is)
      (record {
        held = λ link session handle e. same session handle.0 ∙ a.held link session handle e;
        stands = λ link session handle e. a.stands link session handle (sym (same session handle) ∙ e);
      })

  -- some are held no longer: they leave the sessions, and all others stay
  pub record Leave (among : ℕ → Bool) : Type 0 where
    pub keeps :
        (link session handle : ℕ) → old session handle ≡ Some link → among link ≡ false
        → new session handle ≡ Some link
    pub fewer : (link session handle : ℕ) → new session handle ≡ Some link → old session handle ≡ Some link
    pub gone :
        (link : ℕ) → among link ≡ true
        → (session : ℕ) × (handle : ℕ) × (old session handle ≡ Some link) × (new session handle ≡ None)

  module _ (among : ℕ → Bool) (p : Parted among links links_new) (l : Leave among) (a : Agrees old links) where
    left-held : (link session : ℕ) (handle : OutputHandle) → held_at links_new link ≡ Some (session, handle)
        → (b : Bool) → among link ≡ b → new session handle.0 ≡ Some link
    left-held link session handle e true is = absurd (none-some (session, handle) (sym (p.here link is) ∙ e))
    left-held link session handle e false is =
        l.keeps link session handle.0 (a.held link session handle (ap holder (sym (p.other link is)) ∙ e)) is

    -- one that is held isn't among them
    not-among : (link session handle : ℕ) → new session handle ≡ Some link
        → held_at links link ≡ Some (session, record { 0 = handle }) → among link ≡ true → ⊥
    not-among link session handle e held is =
        let (was_in, under, was, none) = l.gone link is in
        by was_in under none (a.stands link was_in under was)
      where
        by : (was_in under : ℕ) → new was_in under ≡ None → IsHeldThere links link was_in under → ⊥
        by was_in under none (inr closed) =
            none-some (session, record { 0 = handle }) (sym (ap holder closed) ∙ held)
        by was_in under none (inl there) =
            let same : (was_in, record { 0 = under }) ≡ (session, record { 0 = handle }) =
            same_Some _ _ (sym there ∙ held) in
            let in_it : was_in ≡ session = ap (λ (p : ℕ × OutputHandle). p.0) same in
            let by_it : under ≡ handle = ap (λ (p : ℕ × OutputHandle). p.1.0) same in
            none-some link
            (sym (ap (λ (n : ℕ). new n handle) (sym in_it) ∙ ap (λ (h : ℕ). new was_in h) (sym by_it) ∙ none) ∙ e)

    left-stands : (link session handle : ℕ) → new session handle ≡ Some link → IsHeldThere links link session handle
        → (b : Bool) → among link ≡ b → IsHeldThere links_new link session handle
    left-stands link session handle e (inr closed) b is = inr (p.closed link closed)
    left-stands link session handle e (inl held) false is = inl (ap holder (p.other link is) ∙ held)
    left-stands link session handle e (inl held) true is = absurd (not-among link session handle e held is)

    pub leave : Agrees new links_new
    leave =
        record {
          held = λ link session handle e. left-held link session handle e (among link) refl;
          stands = λ link session handle e.
              left-stands link session handle e (a.stands link session handle (l.fewer link session handle e))
              (among link) refl;
        }

  -- one is closed, and stands in its session still
  module _ (number : ℕ) (same : Same old new) (s : Shut number links links_new) (a : Agrees old links) where
    shut-held : (link session : ℕ) (handle : OutputHandle) → held_at links_new link ≡ Some (session, handle)
        → (b : Bool) → (link == number) ≡ b → new session handle.0 ≡ Some link
    shut-held link session handle e true is =
        absurd
        (none-some (session, handle)
        (sym (ap (held_at links_new) (same_number link number is) ∙ ap holder s.here) ∙ e))
    shut-held link session handle e false is =
        same session handle.0 ∙ a.held link session handle (ap holder (sym (s.other link is)) ∙ e)

    shut-stands : (link session handle : ℕ) → IsHeldThere links link session handle → (b : Bool)
        → (link == number) ≡ b → IsHeldThere links_new link session handle
    shut-stands link session handle h true is =
        inr (ap (slot_at links_new) (same_number link number is) ∙ s.here)
    shut-stands link session handle (inl held) false is = inl (ap holder (s.other link is) ∙ held)
    shut-stands link session handle (inr closed) false is = inr (s.other link is ∙ closed)

    pub shut : Agrees new links_new
    shut =
        record {
          held = λ link session handle e. shut-held link session handle e (link == number) refl;
          stands = λ link session handle e.
              shut-stands link session handle (a.stands link session handle (sym (same session handle) ∙ e))
              (link == number) refl;
        }

  -- one comes to stand in a session, which holds it from then on
  pub record Enters (number session handle : ℕ) : Type 0 where
    pub none : old session handle ≡ None
    pub here : new session handle ≡ Some number
    pub other :
        (n h : ℕ) → ((n ≡ session) × (h ≡ handle)) ⊎ (new n h ≡ old n h)

  module _ (number session handle : ℕ) (t : ComesIn number session (record { 0 = handle }) links links_new)
      (s : Enters number session handle) (a : Agrees old links) where
    enter-held : (link n : ℕ) (h : OutputHandle) → held_at links_new link ≡ Some (n, h) → (b : Bool)
        → (link == number) ≡ b → new n h.0 ≡ Some link
    enter-held link n h e true is =
        let this : link ≡ number = same_number link number is in
        let same : (session, record { 0 = handle }) ≡ (n, h) =
        same_Some _ _ (sym t.held ∙ ap (held_at links_new) (sym this) ∙ e) in
        ap (λ (p : ℕ × OutputHandle). new p.0 p.1.0) (sym same) ∙ s.here ∙ ap Some (sym this)
    enter-held link n h e false is =
        by (s.other n h.0) (a.held link n h (ap holder (sym (t.other link is)) ∙ e))
      where
        by : ((n ≡ session) × (h.0 ≡ handle)) ⊎ (new n h.0 ≡ old n h.0) → old n h.0 ≡ Some link
            → new n h.0 ≡ Some link
        by (inr same) was = same ∙ was
        by (inl (in_it, by_it)) was =
            absurd
            (none-some link
            (sym (ap (λ (m : ℕ). old m h.0) in_it ∙ ap (λ (k : ℕ). old session k) by_it ∙ s.none) ∙ was))

    enter-stands : (link n h : ℕ) → new n h ≡ Some link → ((n ≡ session) × (h ≡ handle)) ⊎ (new n h ≡ old n h)
        → IsHeldThere links_new link n h
    enter-stands link n h e (inl (in_it, by_it)) =
        let this : number ≡ link =
        same_Some _ _
        (sym s.here ∙ ap (λ (m : ℕ). new m handle) (sym in_it) ∙ ap (λ (k : ℕ). new n k) (sym by_it) ∙ e) in
        inl
        (ap (held_at links_new) (sym this) ∙ t.held
        ∙ ap (λ (m : ℕ). Some (m, record { 0 = handle })) (sym in_it)
        ∙ ap (λ (k : ℕ). Some (n, record { 0 = k })) (sym by_it))
    enter-stands link n h e (inr same) = by (link == number) refl (a.stands link n h (sym same ∙ e))
      where
        by : (b : Bool) → (link == number) ≡ b → IsHeldThere links link n h → IsHeldThere links_new link n h
        by false is (inl held) = inl (ap holder (t.other link is) ∙ held)
        by false is (inr closed) = inr (t.other link is ∙ closed)
        by true is (inl held) =
            absurd
            (none-some _ (sym (ap (held_at links) (same_number link number is) ∙ t.vacant) ∙ held))
        by true is (inr closed) =
            absurd (t.unclosed (ap (slot_at links) (sym (same_number link number is)) ∙ closed))

    pub enter : Agrees new links_new
    enter =
        record {
          held = λ link n h e. enter-held link n h e (link == number) refl;
          stands = λ link n h e. enter-stands link n h e (s.other n h);
        }
