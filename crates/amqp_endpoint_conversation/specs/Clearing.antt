-- What ends one session, or the first of them, as their connection goes (part 2, 2.4.3, 2.5.2).
use Rattle.std.specs.Prelude.{◌≡◌, ◌≢◌, ◌<◌, ℕ, length, None}
use Rattle.amqp_endpoint_model.specs.Relay.{StandsStill}
use Rattle.amqp_endpoint_tables.specs.State.{State, live_at, place_at}

-- no session goes on with this number, and all others stand where they stood
pub record Clears {A S : Type 0} (old : State A S) (number : ℕ) (new : State A S) : Type 0 where
  pub none : live_at new number ≡ None
  pub other : (k : ℕ) → k ≢ number → place_at new k ≡ place_at old k
  pub count : length new.places ≡ length old.places
  pub still : StandsStill old.connection new.connection

-- no session goes on with one of the first so many numbers
pub record ClearsFirst {A S : Type 0} (number : ℕ) (old new : State A S) : Type 0 where
  pub none : (k : ℕ) → k < number → live_at new k ≡ None
  pub count : length new.places ≡ length old.places
  pub still : StandsStill old.connection new.connection
