-- Each link has a history of its own among the steps of all.
use Rattle.std.proofs.Common.{◌≡◌, ◌≢◌, ◌⊎◌, inl, inr, ℕ, Bool, true, false, List, [], ◌∷◌, ◌++◌, Option, Some, None, IsSome, refl, sym, ap, subst, ◌∙◌, ◌==◌, length, slice_get, slice_set, true≢false, arith, if◌then◌else◌}
use Rattle.std.proofs.lemmas.Bool.Decides.{eqb_tells}
use Rattle.std.proofs.lemmas.Option.{none-some, same_Some, slice_get_past, get_or_from_slice_get}
use Rattle.amqp_endpoint_tables.specs.declared.link_place.LinkPlace.{LinkPlace}
use Rattle.amqp_endpoint_tables.specs.declared.link_place.LinkPlace.TheVariants.{Held, AtRest}
use Rattle.amqp_endpoint_tables.specs.declared.link_place.Named.{Named}
use Rattle.amqp_endpoint_tables.specs.LinkState.{State, held_of, moved, open_of, place_of, put_in, rest_of}
use Rattle.amqp_endpoint_tables.specs.LinkSteps.{Act, Step, History, MakesRoom, LowersRoom, Enters, Rests, Holds}
use Rattle.amqp_endpoint_tables.specs.LinkSteps.{ChangesAtRest, Closes}
use Rattle.amqp_endpoint_tables.specs.OwnLinks.{SlotHistory, SlotStep, is_about, slot_at, steps_of}
use Rattle.amqp_endpoint_tables.proofs.Slots.{get-before, get-other, get-pushed, get-same}

pub same_number : (n number : ℕ) → (n == number) ≡ true → n ≡ number
same_number n number e = by (eqb_tells n number)
  where
    by : (((n == number) ≡ true) × (n ≡ number)) ⊎ (((n == number) ≡ false) × (n ≢ number)) → n ≡ number
    by (inl p) = p.1
    by (inr p) = absurd (true≢false (sym e ∙ p.0))

pub other_number : (n number : ℕ) → (n == number) ≡ false → n ≢ number
other_number n number e = by (eqb_tells n number)
  where
    by : (((n == number) ≡ true) × (n ≡ number)) ⊎ (((n == number) ≡ false) × (n ≢ number)) → n ≢ number
    by (inl p) = absurd (true≢false (sym p.0 ∙ e))
    by (inr p) = p.1

module _ {L : Type 0} where
  -- a place of which something is known
  rest_is : (place : LinkPlace L) (link : L) → rest_of (Some place) ≡ Some link → place ≡ AtRest link
  rest_is (Held session handle) link e = absurd (none-some _ e)
  rest_is (AtRest other) link e = ap (λ (x : L). AtRest x) (same_Some _ _ e)

  -- a link that isn't closed, of which something is known
  there_held : (o : Option (Option (Named L))) → IsSome (held_of (place_of (open_of o)))
      → (stood : Named L) × (o ≡ Some (Some stood)) × IsSome (held_of (Some stood.place))
  there_held None e = absurd (true≢false (sym e))
  there_held (Some None) e = absurd (true≢false (sym e))
  there_held (Some (Some stood)) e = (stood, refl, e)

  there_rest : (o : Option (Option (Named L))) (link : L) → rest_of (place_of (open_of o)) ≡ Some link
      → (stood : Named L) × (o ≡ Some (Some stood)) × (stood.place ≡ AtRest link)
  there_rest None link e = absurd (none-some _ e)
  there_rest (Some None) link e = absurd (none-some _ e)
  there_rest (Some (Some stood)) link e = (stood, refl, rest_is stood.place link e)

  there_placed : (o : Option (Option (Named L))) (place : LinkPlace L) → place_of (open_of o) ≡ Some place
      → (stood : Named L) × (o ≡ Some (Some stood)) × (stood.place ≡ place)
  there_placed None place e = absurd (none-some _ e)
  there_placed (Some None) place e = absurd (none-some _ e)
  there_placed (Some (Some stood)) place e = (stood, refl, same_Some _ _ e)

  -- where such a link is put in another place
  put_is : (links : List (Option (Named L))) (number : ℕ) (place : LinkPlace L) (stood : Named L)
      → slice_get links number ≡ Some (Some stood)
      → put_in links number place ≡ slice_set links number (Some (record stood { place = place }))
  put_is links number place stood had =
      ap (λ (o : Option (Named L)). slice_set links number (moved o place))
      (get_or_from_slice_get links number (Some stood) None had)

module _ {L : Type 0} (n : ℕ) where
  module _ (old new : State L) (number : ℕ) (slot : Option (Named L)) where
    module _ (is : new.links ≡ slice_set old.links number slot) where
      put_about : (stood : Option (Named L)) → (n == number) ≡ true → slot_at old number ≡ Some stood
          → (slot_at old n ≡ Some stood) × (slot_at new n ≡ Some slot)
      put_about stood e had =
          let same = same_number n number e in (
            ap (slice_get old.links) same ∙ had,
            ap (slice_get new.links) same ∙ ap (λ (ls : List (Option (Named L))). slice_get ls number) is
                ∙ get-same old.links number stood slot had,
          )

      put_else : (n == number) ≡ false → slot_at new n ≡ slot_at old n
      put_else e =
          ap (λ (ls : List (Option (Named L))). slice_get ls n) is
          ∙ get-other old.links number n slot (other_number n number e)

    module _ (is : new.links ≡ old.links ++ slot ∷ []) (last : number ≡ length old.links) where
      push_about : (n == number) ≡ true → (slot_at old n ≡ None) × (slot_at new n ≡ Some slot)
      push_about e =
          let same = same_number n number e ∙ last in (
            ap (slice_get old.links) same ∙ slice_get_past old.links (length old.links) (omega arith),
            ap (slice_get new.links) same
                ∙ ap (λ (ls : List (Option (Named L))). slice_get ls (length old.links)) is
                ∙ get-pushed old.links slot,
          )

      push_else : (n == number) ≡ false → slot_at new n ≡ slot_at old n
      push_else e =
          ap (λ (ls : List (Option (Named L))). slice_get ls n) is
          ∙ get-before old.links slot n (λ same. other_number n number e (same ∙ sym last))

  -- a link behind a step: as the step says that is about it, and else as it was
  pub record At (old : State L) (step : Act L) (new : State L) : Type 0 where
    pub about : is_about n step ≡ true → SlotStep (slot_at old n) step (slot_at new n)
    pub other : is_about n step ≡ false → slot_at new n ≡ slot_at old n

  pub at : (old : State L) (step : Act L) (new : State L) → Step old step new → At old step new
  at old (MakesRoom name) new s =
      record {
        about = λ e. absurd (true≢false (sym e));
        other = λ _. ap (λ (x : State L). slice_get x.links n) s.1;
      }
  at old (LowersRoom room) new s =
      record {
        about = λ e. absurd (true≢false (sym e));
        other = λ _. ap (λ (x : State L). slice_get x.links n) s;
      }
  at old (Enters number name session handle) new s =
      let is = ap (λ (x : State L). x.links) s.3 in
      let slot : Option (Named L) = Some (record { name = name; place = Held session handle }) in
      record {
        about = push_about old new number slot is s.2;
        other = push_else old new number slot is s.2;
      }
  at old (Rests number link) new s =
      let (stood, had, held) = there_held (slot_at old number) s.0 in
      let slot : Option (Named L) = Some (record stood { place = AtRest link }) in
      let is = ap (λ (x : State L). x.links) s.1 ∙ put_is old.links number (AtRest link) stood had in
      record {
        about = λ e. let p = put_about old new number slot is (Some stood) e had in (stood, p.0, held, p.1);
        other = put_else old new number slot is;
      }
  at old (Holds number session handle link) new s =
      let (stood, had, was) = there_rest (slot_at old number) link s.0 in
      let slot : Option (Named L) = Some (record stood { place = Held session handle }) in
      let is = ap (λ (x : State L). x.links) s.1 ∙ put_is old.links number (Held session handle) stood had in
      record {
        about = λ e. let p = put_about old new number slot is (Some stood) e had in (stood, p.0, was, p.1);
        other = put_else old new number slot is;
      }
  at old (ChangesAtRest number before after) new s =
      let (stood, had, was) = there_rest (slot_at old number) before s.0 in
      let slot : Option (Named L) = Some (record stood { place = AtRest after }) in
      let is = ap (λ (x : State L). x.links) s.1 ∙ put_is old.links number (AtRest after) stood had in
      record {
        about = λ e. let p = put_about old new number slot is (Some stood) e had in (stood, p.0, was, p.1);
        other = put_else old new number slot is;
      }
  at old (Closes number place) new s =
      let (stood, had, was) = there_placed (slot_at old number) place s.0 in
      let is = ap (λ (x : State L). x.links) s.1 in
      record {
        about = λ e. let p = put_about old new number None is (Some stood) e had in (stood, p.0, was, p.1);
        other = put_else old new number None is;
      }

  pub own : (start : State L) (steps : List (Act L)) (end : State L) → History start steps end
      → SlotHistory (slot_at start n) (steps_of n steps) (slot_at end n)
  own start [] end h = ap (λ (x : State L). slot_at x n) h
  own start (step ∷ steps) end (mid, s, h) = by (at start step mid s) (own mid steps end h) (is_about n step) refl
    where
      by : At start step mid → SlotHistory (slot_at mid n) (steps_of n steps) (slot_at end n) → (b : Bool)
          → is_about n step ≡ b → SlotHistory (slot_at start n) (steps_of n (step ∷ steps)) (slot_at end n)
      by found rest true e =
          subst
          (λ (c : Bool). SlotHistory (slot_at start n) (if c then step ∷ steps_of n steps else steps_of n steps)
          (slot_at end n))
          (sym e) (slot_at mid n, found.about e, rest)
      by found rest false e =
          subst
          (λ (c : Bool). SlotHistory (slot_at start n) (if c then step ∷ steps_of n steps else steps_of n steps)
          (slot_at end n))
          (sym e)
          (subst (λ (o : Option (Option (Named L))). SlotHistory o (steps_of n steps) (slot_at end n))
          (found.other e) rest)

module _ {L : Type 0} where
  -- nothing happens to a link that is closed
  no_step : (step : Act L) (mid : Option (Option (Named L))) → SlotStep (Some None) step mid → ⊥
  no_step (MakesRoom name) mid s = s
  no_step (LowersRoom room) mid s = s
  no_step (Enters number name session handle) mid s = none-some _ (sym s.0)
  no_step (Rests number link) mid (stood, is, _, _) = none-some _ (same_Some _ _ is)
  no_step (Holds number session handle link) mid (stood, is, _, _) = none-some _ (same_Some _ _ is)
  no_step (ChangesAtRest number before after) mid (stood, is, _, _) = none-some _ (same_Some _ _ is)
  no_step (Closes number place) mid (stood, is, _, _) = none-some _ (same_Some _ _ is)

  closed : (start : Option (Option (Named L))) (steps : List (Act L)) (end : Option (Option (Named L)))
      → SlotHistory start steps end → start ≡ Some None → end ≡ Some None
  closed start [] end h e = h ∙ e
  closed start (step ∷ steps) end (mid, s, h) e =
      absurd (no_step step mid (subst (λ (o : Option (Option (Named L))). SlotStep o step mid) e s))

  pub stays_closed : (n : ℕ) (start end : State L) (steps : List (Act L)) → History start steps end
      → slot_at start n ≡ Some None → slot_at end n ≡ Some None
  stays_closed n start end steps h e =
      closed (slot_at start n) (steps_of n steps) (slot_at end n) (own n start steps end h) e
