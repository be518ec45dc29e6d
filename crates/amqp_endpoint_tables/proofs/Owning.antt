-- Each session has a history of its own among the steps of all.
use Rattle.std.proofs.Common.{◌≡◌, ◌≢◌, ◌⊎◌, inl, inr, ℕ, zero, suc, Bool, true, false, List, [], ◌∷◌, ◌++◌, Option, Some, None, refl, sym, ap, subst, ◌∙◌, ◌==◌, length, slice_get, slice_set, slice_index_or, true≢false, arith, if◌then◌else◌}
use Rattle.std.proofs.lemmas.Bool.Decides.{eqb_tells}
use Rattle.std.proofs.lemmas.Option.{none-some, slice_get_past, get_or_from_slice_get}
use Rattle.amqp_session_frames.specs.State as channels
use Rattle.amqp_endpoint_tables.specs.declared.place.PeerEnd.TheVariants.{Missing, Received}
use Rattle.amqp_endpoint_tables.specs.declared.place.Place.{Place}
use Rattle.amqp_endpoint_tables.specs.declared.place.Place.TheVariants.{Asked, Live, Ending, Over}
use Rattle.amqp_endpoint_tables.specs.State.{State, asked_of, ended_place, finished_place, live_of, peer_end_of}
use Rattle.amqp_endpoint_tables.specs.State.{place_at, told_place, with_asked, with_live}
use Rattle.amqp_endpoint_tables.specs.Steps.{Act, Step, History, EndTaken, ChangesConnection, Begins, Asks, Accepts}
use Rattle.amqp_endpoint_tables.specs.Steps.{TakesBegin, TakesEnd, Ends, Finishes, TellsEnd, ChangesAsked}
use Rattle.amqp_endpoint_tables.specs.Steps.{ChangesLive}
use Rattle.amqp_endpoint_tables.specs.Own.{PlaceHistory, PlaceStep, is_about, steps_of}

module _ {X : Type 0} where
  pub get-same : (xs : List X) (i : ℕ) (x v : X) → slice_get xs i ≡ Some x → slice_get (slice_set xs i v) i ≡ Some v
  get-same [] i x v e = absurd (none-some _ e)
  get-same (y ∷ ys) zero x v e = refl
  get-same (y ∷ ys) (suc i) x v e = get-same ys i x v e

  pub get-other : (xs : List X) (i k : ℕ) (v : X) → k ≢ i → slice_get (slice_set xs i v) k ≡ slice_get xs k
  get-other [] i k v ne = refl
  get-other (y ∷ ys) zero zero v ne = absurd (ne refl)
  get-other (y ∷ ys) zero (suc k) v ne = refl
  get-other (y ∷ ys) (suc i) zero v ne = refl
  get-other (y ∷ ys) (suc i) (suc k) v ne = get-other ys i k v (λ e. ne (ap suc e))

  pub get-pushed : (xs : List X) (x : X) → slice_get (xs ++ x ∷ []) (length xs) ≡ Some x
  get-pushed [] x = refl
  get-pushed (y ∷ ys) x = get-pushed ys x

  pub get-before : (xs : List X) (x : X) (k : ℕ) → k ≢ length xs → slice_get (xs ++ x ∷ []) k ≡ slice_get xs k
  get-before [] x zero ne = absurd (ne refl)
  get-before [] x (suc k) ne = refl
  get-before (y ∷ ys) x zero ne = refl
  get-before (y ∷ ys) x (suc k) ne = get-before ys x k (λ e. ne (ap suc e))

pub same_number : (n number : ℕ) → (n == number) ≡ true → n ≡ number
same_number n number e = by (eqb_tells n number)
  where
    by : (((n == number) ≡ true) × (n ≡ number)) ⊎ (((n == number) ≡ false) × (n ≢ number)) → n ≡ number
    by (inl p) = p.1
    by (inr p) = absurd (true≢false (sym e ∙ p.0))

pub other_number : (n number : ℕ) → (n == number) ≡ false → n ≢ number
other_number n number e = by (eqb_tells n number)
  where
    by : (((n == number) ≡ true) × (n ≡ number)) ⊎ (((n == number) ≡ false) × (n ≢ number)) → n ≢ number
    by (inl p) = absurd (true≢false (sym p.0 ∙ e))
    by (inr p) = p.1

module _ {A S : Type 0} (n : ℕ) where
  module _ (old new : State A S) (number : ℕ) (put : Place A S) where
    module _ (is : new.places ≡ slice_set old.places number put) where
      put_about : (stood : Place A S) → (n == number) ≡ true → place_at old number ≡ Some stood
          → (place_at old n ≡ Some stood) × (place_at new n ≡ Some put)
      put_about stood e had =
          let same = same_number n number e in (
            ap (slice_get old.places) same ∙ had,
            ap (slice_get new.places) same ∙ ap (λ (ps : List (Place A S)). slice_get ps number) is
                ∙ get-same old.places number stood put had,
          )

      put_else : (n == number) ≡ false → place_at new n ≡ place_at old n
      put_else e =
          ap (λ (ps : List (Place A S)). slice_get ps n) is ∙ get-other old.places number n put (other_number n number e)

    module _ (is : new.places ≡ old.places ++ put ∷ []) (last : number ≡ length old.places) where
      push_about : (n == number) ≡ true → (place_at old n ≡ None) × (place_at new n ≡ Some put)
      push_about e =
          let same = same_number n number e ∙ last in (
            ap (slice_get old.places) same ∙ slice_get_past old.places (length old.places) (omega arith),
            ap (slice_get new.places) same ∙ ap (λ (ps : List (Place A S)). slice_get ps (length old.places)) is
                ∙ get-pushed old.places put,
          )

      push_else : (n == number) ≡ false → place_at new n ≡ place_at old n
      push_else e =
          ap (λ (ps : List (Place A S)). slice_get ps n) is
          ∙ get-before old.places put n (λ same. other_number n number e (same ∙ sym last))

  -- where a session stands behind a step: as the step says that is about it, and else where it stood
  pub record At (old : State A S) (step : Act A S) (new : State A S) : Type 0 where
    pub about : is_about n step ≡ true → PlaceStep (place_at old n) step (place_at new n)
    pub other : is_about n step ≡ false → place_at new n ≡ place_at old n

  same_places : (old new : State A S) (step : Act A S) → is_about n step ≡ false → new.places ≡ old.places
      → At old step new
  same_places old new step not is =
      record {
        about = λ e. absurd (true≢false (sym e ∙ not));
        other = λ _. ap (λ (ps : List (Place A S)). slice_get ps n) is;
      }

  -- there is a place where something of it is known
  live_there : (o : Option (Place A S)) (before : S) → live_of o ≡ Some before
      → (stood : Place A S) × (o ≡ Some stood) × (live_of (Some stood) ≡ Some before)
  live_there None before e = absurd (none-some _ e)
  live_there (Some stood) before e = (stood, refl, e)

  asked_there : (o : Option (Place A S)) (before : A) → asked_of o ≡ Some before
      → (stood : Place A S) × (o ≡ Some stood) × (asked_of (Some stood) ≡ Some before)
  asked_there None before e = absurd (none-some _ e)
  asked_there (Some stood) before e = (stood, refl, e)

  pub at : (old : State A S) (step : Act A S) (new : State A S) → Step old step new → At old step new
  at old (ChangesConnection before after) new s = same_places old new _ refl (ap (λ (x : State A S). x.places) s.1)
  at old (Begins number channel session) new s =
      let is = ap (λ (x : State A S). x.places) s.2 in
      record {
        about = push_about old new number (Live channel session) is s.1;
        other = push_else old new number (Live channel session) is s.1;
      }
  at old (Asks number channel asked) new s =
      let is = ap (λ (x : State A S). x.places) s.2 in
      record {
        about = push_about old new number (Asked channel asked) is s.1;
        other = push_else old new number (Asked channel asked) is s.1;
      }
  at old (Accepts number incoming asked outgoing session) new s =
      let is = ap (λ (x : State A S). x.places) s.2 in
      record {
        about = λ e. put_about old new number (Live outgoing session) is (Asked incoming asked) e s.0;
        other = put_else old new number (Live outgoing session) is;
      }
  at old (TakesBegin number channel begin) new s = same_places old new _ refl (ap (λ (x : State A S). x.places) s.1)
  at old (TakesEnd number channel end stood) new s =
      let is = ended stood s.2 in
      record {
        about = λ e. put_about old new number (ended_place stood) is stood e s.1;
        other = put_else old new number (ended_place stood) is;
      }
    where
      ended : (stood : Place A S) → EndTaken old number channel end stood new
          → new.places ≡ slice_set old.places number (ended_place stood)
      ended (Asked c a) t = ap (λ (x : State A S). x.places) t.1
      ended (Live c l) t = ap (λ (x : State A S). x.places) t.1
      ended (Ending c own_end) t = ap (λ (x : State A S). x.places) t.1
      ended (Over p c) t = absurd t
  at old (Ends number channel session own_end) new s =
      let is = ap (λ (x : State A S). x.places) s.1 in
      record {
        about = λ e. put_about old new number (Ending channel own_end) is (Live channel session) e s.0;
        other = put_else old new number (Ending channel own_end) is;
      }
  at old (Finishes number stood) new s =
      let is = ap (λ (x : State A S). x.places) s.2 in
      record {
        about = λ e. put_about old new number (finished_place stood) is stood e s.0;
        other = put_else old new number (finished_place stood) is;
      }
  at old (TellsEnd number) new (stood, had, came, new_is) =
      let is = ap (λ (x : State A S). x.places) new_is in
      record {
        about = λ e. let p = put_about old new number (told_place stood) is stood e had in (stood, p.0, came, p.1);
        other = put_else old new number (told_place stood) is;
      }
  at old (ChangesAsked number before after) new s =
      let (stood, had, was) = asked_there (place_at old number) before s.0 in
      let here = get_or_from_slice_get old.places number stood (Over Missing false) had in
      let is : new.places ≡ slice_set old.places number (with_asked stood after) =
      ap (λ (x : State A S). x.places) s.1 ∙ ap (λ (p : Place A S). slice_set old.places number (with_asked p after)) here in
      record {
        about = λ e. let p = put_about old new number (with_asked stood after) is stood e had in (stood, p.0, was, p.1);
        other = put_else old new number (with_asked stood after) is;
      }
  at old (ChangesLive number before after) new s =
      let (stood, had, was) = live_there (place_at old number) before s.0 in
      let here = get_or_from_slice_get old.places number stood (Over Missing false) had in
      let is : new.places ≡ slice_set old.places number (with_live stood after) =
      ap (λ (x : State A S). x.places) s.1 ∙ ap (λ (p : Place A S). slice_set old.places number (with_live p after)) here in
      record {
        about = λ e. let p = put_about old new number (with_live stood after) is stood e had in (stood, p.0, was, p.1);
        other = put_else old new number (with_live stood after) is;
      }

  pub own : (start : State A S) (steps : List (Act A S)) (end : State A S) → History start steps end
      → PlaceHistory (place_at start n) (steps_of n steps) (place_at end n)
  own start [] end h = ap (λ (x : State A S). place_at x n) h
  own start (step ∷ steps) end (mid, s, h) = by (at start step mid s) (own mid steps end h) (is_about n step) refl
    where
      by : At start step mid → PlaceHistory (place_at mid n) (steps_of n steps) (place_at end n) → (b : Bool)
          → is_about n step ≡ b → PlaceHistory (place_at start n) (steps_of n (step ∷ steps)) (place_at end n)
      by found rest true e =
          subst (λ (c : Bool). PlaceHistory (place_at start n) (if c then step ∷ steps_of n steps else steps_of n steps) (place_at end n))
          (sym e) (place_at mid n, found.about e, rest)
      by found rest false e =
          subst (λ (c : Bool). PlaceHistory (place_at start n) (if c then step ∷ steps_of n steps else steps_of n steps) (place_at end n))
          (sym e)
          (subst (λ (o : Option (Place A S)). PlaceHistory o (steps_of n steps) (place_at end n)) (found.other e) rest)
