-- A link that a session holds was held by it all the time, since it was entered, where it never attached again.
use Rattle.std.proofs.Common.{◌≡◌, ◌≢◌, ◌==◌, ◌⊎◌, inl, inr, ℕ, Bool, true, false, List, [], ◌∷◌, Option, Some, None}
use Rattle.std.proofs.Common.{ap, refl, sym, subst}
use Rattle.std.proofs.Common.{◌∙◌}
use Rattle.std.proofs.lemmas.Bool.Decides.{eqb_tells}
use Rattle.std.proofs.lemmas.Option.{none-some}
use Rattle.amqp_session_types.specs.declared.handles.OutputHandle.{OutputHandle}
use Rattle.amqp_link.specs.declared.end.End.{End}
use Rattle.amqp_endpoint_tables.specs.OwnLinks.{SlotStep, is_about, slot_at}
use Rattle.amqp_endpoint_tables.specs.LinkState.{open_of, place_at, place_of}
use Rattle.amqp_endpoint_tables.specs.LinkSteps.{ChangesAtRest, Closes, Enters, Holds, LowersRoom, MakesRoom, Rests}
use Rattle.amqp_endpoint_tables.specs.LinkSteps.{Act}
use Rattle.amqp_endpoint_tables.specs.LinkSteps.{Step}
use Rattle.amqp_endpoint_tables.specs.declared.link_place.LinkPlace.{LinkPlace}
use Rattle.amqp_endpoint_tables.specs.declared.link_place.LinkPlace.TheVariants.{AtRest, Held}
use Rattle.amqp_endpoint_tables.specs.declared.link_place.Named.{Named}
use Rattle.amqp_endpoint_tables.proofs.OwningLinks.{at, same_number}
use Rattle.amqp_endpoint_model.specs.declared.call.Call.{Call}
use Rattle.amqp_endpoint_model.specs.declared.call.Call.TheVariants as call
use Rattle.amqp_endpoint_laws.specs.Deeds.{AreDone, Deed, Does, IsDeed}
use Rattle.amqp_endpoint_laws.specs.Resumed.{IsResumed, NeverResumed, Resumes}
use Rattle.amqp_endpoint_linking.specs.Linking.{Links}
use Rattle.amqp_endpoint.specs.Does.{linked}
use Rattle.amqp_endpoint.specs.declared.linked.LinkedSessions.{LinkedSessions}
use Rattle.amqp_endpoint_laws.proofs.DeedsKept.{MayBe, deed-keeps}
use Rattle.amqp_endpoint_laws.proofs.LinksKept.{BackGoesOn, FinishedGoesOn, HoldsOnly, LeftGoesOn, MayHold}
use Rattle.amqp_endpoint_laws.proofs.LinksKept.{links-keep, links-kept}

abbrev Slot : Type 0
Slot = Option (Option (Named End))

module _ (link session : ℕ) (handle : OutputHandle) where
  abbrev here : LinkPlace End
  here = Held session handle

  -- a link that was entered, and isn't held so
  abbrev IsElsewhere : Slot → Type 0
  IsElsewhere o = (o ≢ None) × (place_of (open_of o) ≢ Some here)

  at-rest : (it : End) → Some (AtRest it) ≢ Some here
  at-rest it is = absurd cc

  none-here : None ≢ Some here
  none-here is = absurd cc

  -- a step by which no link attaches again
  abbrev HoldsNone : Act End → Type 0
  HoldsNone (Holds number n h it) = ⊥
  HoldsNone step = Unit {0}

  -- or none but others than this
  abbrev IsOther : ℕ → Type 0
  IsOther number = number ≡ link → ⊥

  elsewhere-on : (step : Act End) (old new : Slot) → HoldsNone step → SlotStep old step new → IsElsewhere old
      → IsElsewhere new
  elsewhere-on (MakesRoom name) old new none s e = absurd s
  elsewhere-on (LowersRoom room) old new none s e = absurd s
  elsewhere-on (Enters number name n h) old new none s e = absurd (e.0 s.0)
  elsewhere-on (Rests number it) old new none (stood, was, held, is) e =
      subst IsElsewhere (sym is) ((λ same. absurd (none-some _ (sym same))), at-rest it)
  elsewhere-on (Holds number n h it) old new none s e = absurd none
  elsewhere-on (ChangesAtRest number before after) old new none (stood, was, place, is) e =
      subst IsElsewhere (sym is) ((λ same. absurd (none-some _ (sym same))), at-rest after)
  elsewhere-on (Closes number place) old new none (stood, was, there, is) e =
      subst IsElsewhere (sym is) ((λ same. absurd (none-some _ (sym same))), none-here)

  holds-none : (step : Act End) → HoldsOnly IsOther step → is_about link step ≡ true → HoldsNone step
  holds-none (Holds number n h it) other about = other (sym (same_number link number about))
  holds-none step other about = tt

  -- it stays so
  stays-elsewhere : (step : Act End) (old new : Links) → HoldsOnly IsOther step → Step old step new
      → IsElsewhere (slot_at old link) → IsElsewhere (slot_at new link)
  stays-elsewhere step old new none s e = by (is_about link step) refl
    where
      by : (b : Bool) → is_about link step ≡ b → IsElsewhere (slot_at new link)
      by true about =
          elsewhere-on step (slot_at old link) (slot_at new link) (holds-none step none about)
          ((at link old step new s).about about) e
      by false about = subst IsElsewhere (sym ((at link old step new s).other about)) e

  -- and it stays entered
  stays-entered : (step : Act End) (old new : Links) → HoldsOnly (λ n. Unit {0}) step → Step old step new
      → slot_at old link ≢ None → slot_at new link ≢ None
  stays-entered step old new none s e = by (is_about link step) refl
    where
      entered : (it : Act End) (o p : Slot) → SlotStep o it p → p ≢ None
      entered (MakesRoom name) o p t = absurd t
      entered (LowersRoom room) o p t = absurd t
      entered (Enters number name n h) o p t = λ is. absurd (none-some _ (sym is ∙ t.1))
      entered (Rests number it) o p t = λ is. absurd (none-some _ (sym is ∙ t.3))
      entered (Holds number n h it) o p t = λ is. absurd (none-some _ (sym is ∙ t.3))
      entered (ChangesAtRest number before after) o p t = λ is. absurd (none-some _ (sym is ∙ t.3))
      entered (Closes number place) o p t = λ is. absurd (none-some _ (sym is ∙ t.3))

      by : (b : Bool) → is_about link step ≡ b → slot_at new link ≢ None
      by true about = entered step (slot_at old link) (slot_at new link) ((at link old step new s).about about)
      by false about = subst (λ (o : Slot). o ≢ None) (sym ((at link old step new s).other about)) e

  held-or-not : (o : Option (LinkPlace End)) → (o ≡ Some here) ⊎ (o ≢ Some here)
  held-or-not None = inr none-here
  held-or-not (Some (AtRest it)) = inr (at-rest it)
  held-or-not (Some (Held n h)) = by (eqb_tells n session) (eqb_tells h.0 handle.0)
    where
      by : (((n == session) ≡ true) × (n ≡ session)) ⊎ (((n == session) ≡ false) × (n ≢ session))
          → (((h.0 == handle.0) ≡ true) × (h.0 ≡ handle.0)) ⊎ (((h.0 == handle.0) ≡ false) × (h.0 ≢ handle.0))
          → (Some (Held n h) ≡ Some here) ⊎ (Some (Held n h) ≢ Some here)
      by (inl a) (inl b) =
          inl
          (ap (λ (m : ℕ). Some (Held m h)) a.1
          ∙ ap (λ (m : ℕ). Some (Held session (record { 0 = m }))) b.1)
      by (inr a) b = inr (λ is. a.1 (let same : n ≡ session = cc in same))
      by a (inr b) = inr (λ is. b.1 (ap (λ (k : OutputHandle). k.0) (let same : h ≡ handle = cc in same)))

  module _ (back_on : BackGoesOn) (left_on : LeftGoesOn) (finished_on : FinishedGoesOn) where
    pub entered-before : (deed : Deed) (old new : LinkedSessions) → IsDeed linked old deed new
        → slot_at old.links link ≢ None → slot_at new.links link ≢ None
    entered-before deed old new d e =
        deed-keeps linked (λ s. slot_at s.links link ≢ None)
        (links-keep (λ ls. slot_at ls link ≢ None) (λ n. Unit {0}) stays-entered back_on left_on finished_on (λ n. tt))
        deed old new d e

    may-call : (it : Call) → (Resumes link it → ⊥) → MayHold IsOther it
    may-call (call.Resume number n) never = never
    may-call it never = tt

    may-be : (deed : Deed) → (IsResumed link deed → ⊥) → MayBe (MayHold IsOther) deed
    may-be (Does limit it answer frames) never = may-call it never
    may-be deed never = tt

    -- behind a deed it is held so, and it was before
    pub held-before : (deed : Deed) (old new : LinkedSessions) → (IsResumed link deed → ⊥)
        → IsDeed linked old deed new → slot_at old.links link ≢ None → place_at new.links link ≡ Some here
        → place_at old.links link ≡ Some here
    held-before deed old new never d e held =
        elim (held-or-not (place_at old.links link)) [
          | inl is ↦ is
          | inr other ↦
              absurd
              ((links-kept (λ ls. IsElsewhere (slot_at ls link)) IsOther stays-elsewhere back_on left_on finished_on
              deed old new (may-be deed never) d (e, other)).1
              held)
        ]

    pub held-since : (deeds : List Deed) (old new : LinkedSessions) → NeverResumed link deeds
        → AreDone linked old deeds new → slot_at old.links link ≢ None → place_at new.links link ≡ Some here
        → place_at old.links link ≡ Some here
    held-since [] old new never same e held = ap (λ (s : LinkedSessions). place_at s.links link) (sym same) ∙ held
    held-since (deed ∷ deeds) old new never (mid, one, rest) e held =
        held-before deed old mid never.0 one e
        (held-since deeds mid new never.1 rest (entered-before deed old mid one e) held)
