-- No two sessions of an endpoint have one outgoing channel (part 2, 2.5.1, 2.5.2).
use Rattle.std.proofs.Common.{◌≡◌, ◌≢◌, ◌<◌, inl, inr, ℕ, zero, suc, List, [], ◌∷◌, ◌==◌, length, arith, Option}
use Rattle.std.proofs.Common.{Some, None, refl, sym, ap, subst, ◌∙◌}
use Rattle.std.proofs.lemmas.Bool.{cases_lt}
use Rattle.std.proofs.lemmas.List.{length-set}
use Rattle.std.proofs.lemmas.Option.{none-some, slice_get_past}
use Rattle.amqp_endpoint_tables.specs.declared.place.Place.{Place}
use Rattle.amqp_endpoint_tables.specs.declared.place.Place.TheVariants.{Asked, Live, Ending, Over}
use Rattle.amqp_endpoint_tables.specs.State.{State, channel_at, channel_in, channel_of, ended_place, finished_place}
use Rattle.amqp_endpoint_tables.specs.State.{place_at}
use Rattle.amqp_endpoint_tables.specs.Steps.{Act, Step, History, ChangesConnection, Begins, Asks, Accepts}
use Rattle.amqp_endpoint_tables.specs.Steps.{TakesBegin, Finished, TakesEnd, Ends, Finishes, TellsEnd, ChangesAsked}
use Rattle.amqp_endpoint_tables.specs.Steps.{ChangesLive}
use Rattle.amqp_endpoint_tables.specs.Own.{KeepsChannels, PlaceStep, is_about}
use Rattle.amqp_endpoint_tables.proofs.Apart.{asked_same, live_same, split, told_same}
use Rattle.amqp_endpoint_tables.proofs.Owning.{At, at, other_number, same_number}

under-more : (k count : ℕ) → k < suc count → k ≢ count → k < count
under-more k count under other =
    elim (cases_lt k count) [ inl less ↦ less | inr past ↦ absurd (other (omega (arith, under, past))) ]

-- no channel is given to a session, nor by the owner of the connection itself
abbrev pub GivesNone : {A S : Type 0} → Act A S → Type 0
GivesNone (ChangesConnection before after) = after.live ≡ before.live
GivesNone (Begins number channel session) = ⊥
GivesNone (Accepts number incoming asked outgoing session) = ⊥
GivesNone step = Unit {0}

abbrev pub GiveNone : {A S : Type 0} → List (Act A S) → Type 0
GiveNone [] = Unit {0}
GiveNone (step ∷ steps) = GivesNone step × GiveNone steps

pub give-keep : {A S : Type 0} (steps : List (Act A S)) → GiveNone steps → KeepsChannels steps
give-keep [] g = tt
give-keep (ChangesConnection before after ∷ steps) g = (g.0, give-keep steps g.1)
give-keep (Begins number channel session ∷ steps) g = absurd g.0
give-keep (Accepts number incoming asked outgoing session ∷ steps) g = absurd g.0
give-keep (Asks number channel asked ∷ steps) g = give-keep steps g.1
give-keep (TakesBegin number channel begin ∷ steps) g = give-keep steps g.1
give-keep (TakesEnd number channel end stood ∷ steps) g = give-keep steps g.1
give-keep (Ends number channel session own_end ∷ steps) g = give-keep steps g.1
give-keep (Finishes number stood ∷ steps) g = give-keep steps g.1
give-keep (TellsEnd number ∷ steps) g = give-keep steps g.1
give-keep (ChangesAsked number before after ∷ steps) g = give-keep steps g.1
give-keep (ChangesLive number before after ∷ steps) g = give-keep steps g.1

module _ {A S : Type 0} where
  -- no session has a channel
  abbrev pub HasNone : State A S → Type 0
  HasNone s = (n : ℕ) → channel_at s n ≡ None

  ended-none : (stood : Place A S) → channel_of (ended_place stood) ≡ None
  ended-none (Asked c a) = refl
  ended-none (Live c l) = refl
  ended-none (Ending c own_end) = refl
  ended-none (Over p c) = refl

  finished-none : (stood : Place A S) → channel_of (finished_place stood) ≡ None
  finished-none (Asked c a) = refl
  finished-none (Live c l) = refl
  finished-none (Ending c own_end) = refl
  finished-none (Over p c) = refl

  none-about : (step : Act A S) (was now : Option (Place A S)) → GivesNone step → PlaceStep was step now
      → channel_in was ≡ None → channel_in now ≡ None
  none-about (ChangesConnection before after) was now g p none = absurd p
  none-about (Begins number channel session) was now g p none = absurd g
  none-about (Asks number channel asked) was now g p none = ap channel_in p.1
  none-about (Accepts number incoming asked outgoing session) was now g p none = absurd g
  none-about (TakesBegin number channel begin) was now g p none = absurd p
  none-about (TakesEnd number channel end stood) was now g p none = ap channel_in p.1 ∙ ended-none stood
  none-about (Ends number channel session own_end) was now g p none =
      absurd (none-some _ (sym none ∙ ap channel_in p.0))
  none-about (Finishes number stood) was now g p none = ap channel_in p.1 ∙ finished-none stood
  none-about (TellsEnd number) was now g (stood, had, came, is) none =
      ap channel_in is ∙ told_same stood ∙ sym (ap channel_in had) ∙ none
  none-about (ChangesAsked number before after) was now g (stood, had, there, is) none =
      ap channel_in is ∙ asked_same stood after ∙ sym (ap channel_in had) ∙ none
  none-about (ChangesLive number before after) was now g (stood, had, there, is) none =
      ap channel_in is ∙ live_same stood after ∙ sym (ap channel_in had) ∙ none

  step-none : (old : State A S) (step : Act A S) (new : State A S) → GivesNone step → Step old step new
      → HasNone old → HasNone new
  step-none old step new g s none n =
      let found : At n old step new = at n old step new s in
      split (is_about n step)
      (λ here. none-about step (place_at old n) (place_at new n) g (found.about here) (none n))
      (λ apart. ap channel_in (found.other apart) ∙ none n)

  pub steps-none : (start : State A S) (steps : List (Act A S)) (end : State A S) → GiveNone steps
      → History start steps end → HasNone start → HasNone end
  steps-none start [] end g h none = subst HasNone (sym h) none
  steps-none start (step ∷ steps) end g (mid, s, h) none =
      steps-none mid steps end g.1 h (step-none start step mid g.0 s none)

  -- the connection of the sessions with the first so many numbers is over: none of them has a channel
  pub record FirstOver (count : ℕ) (old new : State A S) : Type 0 where
    pub none : (k : ℕ) → k < count → channel_at new k ≡ None
    pub as_many : length new.places ≡ length old.places

  pub none-over : (old new : State A S) → new ≡ old → FirstOver zero old new
  none-over old new same =
      record { none = λ k under. absurd (omega (arith, under)); as_many = ap (λ (s : State A S). length s.places) same }

  pub one-over : (count : ℕ) (old mid : State A S) (stood : Option (Place A S)) (new : State A S)
      → FirstOver count old mid → Finished mid count stood new → FirstOver (suc count) old new
  one-over count old mid None new first (absent, same) =
      record {
        none = λ k under.
            ap (λ (s : State A S). channel_at s k) same
            ∙ split (k == count)
            (λ here. ap (λ (i : ℕ). channel_at mid i) (same_number k count here) ∙ ap channel_in absent)
            (λ apart. first.none k (under-more k count under (other_number k count apart)));
        as_many = ap (λ (s : State A S). length s.places) same ∙ first.as_many;
      }
  one-over count old mid (Some stood) new first s =
      record {
        none = λ k under.
            let found : At k mid (Finishes count stood) new = at k mid (Finishes count stood) new s in
            split (k == count)
            (λ here. ap channel_in (found.about here).1 ∙ finished-none stood)
            (λ apart.
            ap channel_in (found.other apart)
            ∙ first.none k (under-more k count under (other_number k count apart)));
        as_many =
            ap (λ (t : State A S). length t.places) s.2 ∙ length-set mid.places count (finished_place stood)
            ∙ first.as_many;
      }

  pub all-over : (old new : State A S) → FirstOver (length old.places) old new → HasNone new
  all-over old new over n =
      elim (cases_lt n (length old.places)) [
        | inl under ↦ over.none n under
        | inr past ↦ ap channel_in (slice_get_past new.places n (omega (arith, past, over.as_many)))
      ]
