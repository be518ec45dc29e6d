-- How the sessions of a connection end with it, one after the other.
use Rattle.std.proofs.Common.{◌≡◌, ◌≢◌, ◌⊎◌, inl, inr, ℕ, zero, suc, ◌<◌, ◌≤◌, true, false, ◌==◌, List, Option, Some, None, refl, ap, ◌∙◌, length, slice_get, slice_set, arith}
use Rattle.std.proofs.lemmas.Bool.Decides.{eqb_tells}
use Rattle.std.proofs.lemmas.List.{length-set}
use Rattle.std.proofs.lemmas.Option.{slice_get_past}
use Rattle.amqp_session_types.specs.declared.channels.OutgoingChannel.{OutgoingChannel}
use Rattle.amqp_session_frames.specs.State as channels
use Rattle.amqp_endpoint_tables.specs.declared.place.Place.{Place}
use Rattle.amqp_endpoint_tables.specs.declared.place.Place.TheVariants.{Asked, Live, Ending, Over}
use Rattle.amqp_endpoint_tables.specs.State.{State, finished_place, live_at, live_of, place_at}
use Rattle.amqp_endpoint_tables.specs.Steps.{EndSent, Finished, GivesBack}
use Rattle.amqp_endpoint_model.specs.Relay.{StandsStill}
use Rattle.amqp_endpoint_conversation.specs.Clearing.{Clears, ClearsFirst}
use Rattle.amqp_endpoint_conversation.proofs.Lists.{get-same, get-other}
use Rattle.amqp_endpoint_conversation.proofs.Places.{still-same, still-on, still-back}

module _ {A S : Type 0} (old : State A S) (number : ℕ) where
  unchanged : (new : State A S) → live_at old number ≡ None → new ≡ old → Clears old number new
  unchanged new none is =
      record {
        none = ap (λ (s : State A S). live_at s number) is ∙ none;
        other = λ k apart. ap (λ (s : State A S). place_at s k) is;
        count = ap (λ (s : State A S). length s.places) is;
        still = still-same old.connection new.connection (ap (λ (s : State A S). s.connection) is);
      }

  put : (new : State A S) (stood place : Place A S) → place_at old number ≡ Some stood → live_of (Some place) ≡ None
      → new.places ≡ slice_set old.places number place → StandsStill old.connection new.connection
      → Clears old number new
  put new stood place had none is still =
      record {
        none =
            ap (λ (ps : List (Place A S)). live_of (slice_get ps number)) is
            ∙ ap live_of (get-same old.places number stood place had) ∙ none;
        other = λ k apart.
            ap (λ (ps : List (Place A S)). slice_get ps k) is ∙ get-other old.places number k place apart;
        count = ap (λ (ps : List (Place A S)). length ps) is ∙ length-set old.places number place;
        still = still;
      }

  -- the own side of a session is over, where it has begun
  pub left-clears : (new : State A S) (left : Option (OutgoingChannel × S)) → EndSent false old number left new
      → Clears old number new
  left-clears new None s = unchanged new s.0 s.1
  left-clears new (Some given) s =
      put new (Live given.0 given.1) (Ending given.0 false) s.0 refl (ap (λ (x : State A S). x.places) s.1)
      (still-same old.connection new.connection (ap (λ (x : State A S). x.connection) s.1))

  gives-back : (stood : Place A S) (c : channels.State) (asked : channels.Table) → GivesBack old stood c asked
      → StandsStill old.connection c
  gives-back (Asked channel a) c asked g = still-same old.connection c g.0
  gives-back (Live channel s) c asked g = still-back old.connection c channel.0 _ g.0
  gives-back (Ending channel own_end) c asked g = still-back old.connection c channel.0 _ g.0
  gives-back (Over peer_end complete) c asked g = still-same old.connection c g.0

  finished-none : (stood : Place A S) → live_of (Some (finished_place stood)) ≡ None
  finished-none (Asked channel a) = refl
  finished-none (Live channel s) = refl
  finished-none (Ending channel own_end) = refl
  finished-none (Over peer_end complete) = refl

  -- its connection is over, where there is a session
  pub finished-clears : (new : State A S) (stood : Option (Place A S)) → Finished old number stood new
      → Clears old number new
  finished-clears new None s = unchanged new (ap live_of s.0) s.1
  finished-clears new (Some stood) s =
      put new stood (finished_place stood) s.0 (finished-none stood) (ap (λ (x : State A S). x.places) s.2)
      (gives-back stood new.connection new.asked s.1)

module _ {A S : Type 0} where
  pub nothing-cleared : (old new : State A S) → new ≡ old → ClearsFirst zero old new
  nothing-cleared old new is =
      record {
        none = λ k below. absurd (omega arith);
        count = ap (λ (s : State A S). length s.places) is;
        still = still-same old.connection new.connection (ap (λ (s : State A S). s.connection) is);
      }

  pub one-more : (number : ℕ) (old mid new : State A S) → ClearsFirst number old mid → Clears mid number new
      → ClearsFirst (suc number) old new
  one-more number old mid new first step =
      record {
        none = λ k below. by k below (eqb_tells k number);
        count = step.count ∙ first.count;
        still = still-on old.connection mid.connection new.connection first.still step.still;
      }
    where
      by : (k : ℕ) → k < suc number → (((k == number) ≡ true) × (k ≡ number)) ⊎ (((k == number) ≡ false) × (k ≢ number))
          → live_at new k ≡ None
      by k below (inl p) = ap (λ (n : ℕ). live_at new n) p.1 ∙ step.none
      by k below (inr p) = ap live_of (step.other k p.1) ∙ first.none k (less k below p.1)
        where
          less : (k : ℕ) → k < suc number → k ≢ number → k < number
          less k below apart = omega (arith, apart)

  -- once it was so of each number
  pub all-cleared : (old new : State A S) → ClearsFirst (length old.places) old new → (number : ℕ)
      → live_at new number ≡ None
  all-cleared old new c number = by (cases number (length old.places))
    where
      cases : (k n : ℕ) → (k < n) ⊎ (n ≤ k)
      cases k zero = inr (omega arith)
      cases zero (suc n) = inl (omega arith)
      cases (suc k) (suc n) = next (cases k n)
        where
          next : (k < n) ⊎ (n ≤ k) → (suc k < suc n) ⊎ (suc n ≤ suc k)
          next (inl lt) = inl (omega arith)
          next (inr le) = inr (omega arith)

      by : (number < length old.places) ⊎ (length old.places ≤ number) → live_at new number ≡ None
      by (inl below) = c.none number below
      by (inr above) = ap live_of (slice_get_past new.places number (omega (arith, c.count, above)))
