-- One answer of bytes is pulled into a stream.
use Rattle.std.specs.Prelude.{◌≡◌, ℕ, Bool, true, false, List, [], ◌∷◌, ◌++◌, Some}
use Rattle.amqp_endpoint_model.specs.State.{State}
use Rattle.amqp_endpoint_model.specs.Step.{Pulls}

module _ {S : Type 0} where
  -- nothing is
  pub record PullsNone (from : State S) (stream : List ℕ) (pulled : List (List ℕ)) (from_new : State S)
      (stream_new : List ℕ) (pulled_new : List (List ℕ)) : Type 0 where
    pub end : from_new ≡ from
    pub on_its_way : stream_new ≡ stream
    pub told : pulled_new ≡ pulled

  -- what was queued first is
  pub record PullsOne (from : State S) (stream : List ℕ) (pulled : List (List ℕ)) (from_new : State S)
      (stream_new : List ℕ) (pulled_new : List (List ℕ)) : Type 0 where
    pub bytes : List ℕ
    pub end : Pulls from (Some bytes) from_new
    pub on_its_way : stream_new ≡ stream ++ bytes
    pub told : pulled_new ≡ pulled ++ bytes ∷ []

  -- one is, or nothing was queued
  abbrev pub PullsNext : Bool → State S → List ℕ → List (List ℕ) → State S → List ℕ → List (List ℕ) → Type 0
  PullsNext true from stream pulled from_new stream_new pulled_new =
      PullsOne from stream pulled from_new stream_new pulled_new
  PullsNext false from stream pulled from_new stream_new pulled_new =
      (from.queue ≡ []) × PullsNone from stream pulled from_new stream_new pulled_new
