-- How bytes move between an endpoint and its stream.
use Rattle.std.specs.Prelude.{◌≡◌, ℕ, ◌<◌, Bool, true, false, List, [], ◌++◌, length, take, drop, Option, ⊤}
use Rattle.std.specs.Io.KnownBytes.{Appends, Consumes, IsAtEnd, Keeps}
use Rattle.amqp_endpoint_model.specs.declared.error.EndpointError.{EndpointError}
use Rattle.amqp_endpoint_model.specs.declared.error.EndpointError.TheVariants.{Memory}
use Rattle.amqp_endpoint_model.specs.declared.event.Event.{Event}
use Rattle.amqp_endpoint_model.specs.Relay.{Relations}
use Rattle.amqp_endpoint_model.specs.State.{State}
use Rattle.amqp_endpoint_model.specs.Step.{Breaks, FeedsIn}
use Rattle.amqp_endpoint_core.specs.Queue.{texts_of}
use Rattle.amqp_endpoint_core.specs.declared.error.CallerError.{CallerError}
use Rattle.amqp_endpoint_core.specs.declared.error.CallerError.TheVariants.{Endpoint, Stream}

-- why writing stops: the stream refuses, or there is no memory to pull what is queued
abbrev pub StopsWriting : CallerError → Type 0
StopsWriting (Stream refusal) = ⊤
StopsWriting (Endpoint refusal) = refusal ≡ Memory

-- a writer took the first of these bytes, and the others are left
pub record Writes (contents contents_new : Option (List ℕ)) (bytes bytes_new : List ℕ) : Type 0 where
  pub written : List ℕ
  pub taken : Appends contents contents_new written
  pub in_order : bytes ≡ written ++ bytes_new

module _ {S : Type 0} where
  -- so many that were queued first were pulled; what a writer took, and then the bytes that are left, are those of
  -- before and then those that were pulled
  pub record Sends (contents contents_new : Option (List ℕ)) (old : State S) (bytes : List ℕ) (new : State S)
      (bytes_new : List ℕ) : Type 0 where
    pub written : List ℕ
    pub count : ℕ
    pub taken : Appends contents contents_new written
    pub in_order : written ++ bytes_new ≡ bytes ++ texts_of (take count old.queue)
    pub after : new ≡ record old { queue = drop count old.queue }

  -- some that were queued first are pulled behind these bytes
  pub record PullsSome (old : State S) (bytes : List ℕ) (new : State S) (bytes_new : List ℕ) : Type 0 where
    pub count : ℕ
    pub pulled : bytes_new ≡ bytes ++ texts_of (take count old.queue)
    pub after : new ≡ record old { queue = drop count old.queue }
    pub fewer : length new.queue < length old.queue

  -- some are, or nothing is queued
  abbrev pub PullsNext : Bool → State S → List ℕ → State S → List ℕ → Type 0
  PullsNext true old bytes new bytes_new = PullsSome old bytes new bytes_new
  PullsNext false old bytes new bytes_new = (old.queue ≡ []) × (new ≡ old) × (bytes_new ≡ bytes)

module _ {S : Type 0} (does : Relations S) where
  -- some bytes came, and all of them were fed
  pub record Receives (left left_new : Option (List ℕ)) (old : State S) (events : List Event)
      (fault : Option EndpointError) (new : State S) : Type 0 where
    pub bytes : List ℕ
    pub came : Consumes left left_new bytes
    pub some : 0 < length bytes
    pub fed : FeedsIn does old.phase old bytes events fault new

  -- no more bytes come: the endpoint is broken off
  pub record EndsReading (left left_new : Option (List ℕ)) (old new : State S) : Type 0 where
    pub nothing : Keeps left left_new
    pub at_end : IsAtEnd left_new
    pub breaks : Breaks does old new
