-- A caller's loop: what its program is told, and what each turn does.
use Rattle.std.specs.Prelude.{◌≡◌, ℕ, ◌<◌, ◌-◌, ◌^◌, ◌&&◌, ◌⊎◌, Bool, true, false, List, [], ◌∷◌, ◌++◌, length}
use Rattle.std.specs.Prelude.{Option, Some, None, Result, Ok, Err}
use Rattle.std.specs.Io.KnownBytes.{Keeps}
use Rattle.std.specs.IoError.{error_kind}
use Rattle.std.specs.declared.io.ErrorKind.TheVariants.{TimedOut}
use Rattle.std.specs.declared.io.Error.{Error as StreamError}
use Rattle.amqp_endpoint_model.specs.declared.error.EndpointError.{EndpointError}
use Rattle.amqp_endpoint_model.specs.declared.event.Event.{Event}
use Rattle.amqp_endpoint_model.specs.Relay.{Relations}
use Rattle.amqp_endpoint_model.specs.State.{State}
use Rattle.amqp_endpoint_core.specs.Moves.{EndsReading, Receives, Sends, StopsWriting}
use Rattle.amqp_endpoint_core.specs.declared.error.CallerError.{CallerError}
use Rattle.amqp_endpoint_core.specs.declared.error.CallerError.TheVariants.{Endpoint, Stream}

-- what a caller has: its program, the endpoint, the bytes that were pulled and aren't written, and, where they are
-- known, the bytes that the peer still sends and those that are written
pub record Caller (P S : Type 0) : Type 0 where
  pub program : P
  pub endpoint : State S
  pub held : List ℕ
  pub to_come : Option (List ℕ)
  pub written : Option (List ℕ)

abbrev pub caller : {P S : Type 0} → P → State S → List ℕ → Option (List ℕ) → Option (List ℕ) → Caller P S
caller program endpoint held to_come written =
    record { program = program; endpoint = endpoint; held = held; to_come = to_come; written = written }

-- both Close went (part 2, 2.4.3)
abbrev pub has_closed : {P S : Type 0} → Caller P S → Bool
has_closed caller = caller.endpoint.own_close && caller.endpoint.peer_close

module _ {P S : Type 0} (reacts : P → State S → Event → Result (Unit {0}) EndpointError → P → State S → Type 0) where
  -- each of these events goes to the program, once and in order, and it answers them all
  abbrev pub AnswersAll : P → State S → List Event → P → State S → Type 0
  AnswersAll program old [] program_new new = (program_new ≡ program) × (new ≡ old)
  AnswersAll program old (event ∷ events) program_new new =
      (program_mid : P) × (mid : State S) × reacts program old event (Ok tt) program_mid mid
      × AnswersAll program_mid mid events program_new new

  -- it answers those in front, and refuses one; of those behind that it isn't told
  pub record RefusesOne (program : P) (old : State S) (events : List Event) (e : EndpointError) (program_new : P)
      (new : State S) : Type 0 where
    pub front : List Event
    pub event : Event
    pub untold : List Event
    pub program_mid : P
    pub mid : State S
    pub in_order : events ≡ front ++ event ∷ untold
    pub answers : AnswersAll program old front program_mid mid
    pub refuses : reacts program_mid mid event (Err e) program_new new

  -- it answers all of them, or up to the first that it refuses
  abbrev pub ReactsTo : P → State S → List Event → Result (Unit {0}) EndpointError → P → State S → Type 0
  ReactsTo program old events (Ok done) program_new new = AnswersAll program old events program_new new
  ReactsTo program old events (Err e) program_new new = RefusesOne program old events e program_new new

module _ {P S : Type 0} where
  -- of what is held and queued some is written, in order
  pub record WritesOn (old new : Caller P S) : Type 0 where
    pub sends : Sends old.written new.written old.endpoint old.held new.endpoint new.held
    pub others : new ≡ record old { endpoint = new.endpoint; held = new.held; written = new.written }

  -- all of it is
  pub record WritesAll (old new : Caller P S) : Type 0 where
    pub writes : WritesOn old new
    pub none_held : new.held ≡ []
    pub none_queued : new.endpoint.queue ≡ []

  -- the writing stops
  pub record StopsAtWriting (old : Caller P S) (e : CallerError) (new : Caller P S) : Type 0 where
    pub writes : WritesOn old new
    pub why : StopsWriting e

  -- not both Close went, and all is written: it is read next
  pub record ComesToRead (old new : Caller P S) : Type 0 where
    pub goes_on : has_closed old ≡ false
    pub writes : WritesAll old new

  -- the reader refuses, and nothing is read
  pub record StopsAtReading (old new : Caller P S) : Type 0 where
    pub before : Caller P S
    pub comes : ComesToRead old before
    pub nothing : Keeps before.to_come new.to_come
    pub others : new ≡ record before { to_come = new.to_come }

  -- both Close went, and all is written
  pub record EndsClosed (old new : Caller P S) : Type 0 where
    pub closed : has_closed old ≡ true
    pub writes : WritesAll old new

module _ {P S : Type 0} (does : Relations S)
    (reacts : P → State S → Event → Result (Unit {0}) EndpointError → P → State S → Type 0)
  where
    -- the peer sends no more: the endpoint is broken off
    pub record EndsBroken (old new : Caller P S) : Type 0 where
      pub before : Caller P S
      pub comes : ComesToRead old before
      pub ends : EndsReading does before.to_come new.to_come before.endpoint new.endpoint
      pub others : new ≡ record before { endpoint = new.endpoint; to_come = new.to_come }

    -- some bytes came and were fed, maybe with a fault: the program reacts so to the events that they tell
    pub record Hears (old : Caller P S) (fault : Option EndpointError) (outcome : Result (Unit {0}) EndpointError)
        (new : Caller P S) : Type 0 where
      pub before : Caller P S
      pub comes : ComesToRead old before
      pub events : List Event
      pub fed : State S
      pub receives : Receives does before.to_come new.to_come before.endpoint events fault fed
      pub told : ReactsTo reacts before.program fed events outcome new.program new.endpoint
      pub others : new ≡ record before { program = new.program; endpoint = new.endpoint; to_come = new.to_come }

    -- a fault came, the program answered the events in front of it, and all that is queued then is written
    pub record EndsByFault (old new : Caller P S) : Type 0 where
      pub fault : EndpointError
      pub before : Caller P S
      pub hears : Hears old (Some fault) (Ok tt) before
      pub writes : WritesAll before new

    -- that writing stops
    pub record StopsBehindFault (old : Caller P S) (e : CallerError) (new : Caller P S) : Type 0 where
      pub fault : EndpointError
      pub before : Caller P S
      pub hears : Hears old (Some fault) (Ok tt) before
      pub stops : StopsAtWriting before e new

    -- the program refuses an event
    pub record StopsAtEvent (old : Caller P S) (e : EndpointError) (new : Caller P S) : Type 0 where
      pub fault : Option EndpointError
      pub hears : Hears old fault (Err e) new

    -- the connection goes on: some bytes came, without a fault, and the program answered all that they tell
    abbrev pub GoesOn : Caller P S → Caller P S → Type 0
    GoesOn old new = Hears old None (Ok tt) new

    -- it is over: both Close went, or the peer sends no more, or a fault came
    abbrev pub IsOver : Caller P S → Caller P S → Type 0
    IsOver old new = EndsClosed old new ⊎ EndsBroken old new ⊎ EndsByFault old new

    -- the turn stops: the writer refuses, or the reader, or the writer behind a fault; or there is no memory to pull
    -- what is queued, or the program refuses an event
    abbrev pub Stops : Caller P S → CallerError → Caller P S → Type 0
    Stops old (Stream refusal) new =
        StopsAtWriting old (Stream refusal) new ⊎ StopsAtReading old new ⊎ StopsBehindFault old (Stream refusal) new
    Stops old (Endpoint refusal) new =
        StopsAtWriting old (Endpoint refusal) new ⊎ StopsAtEvent old refusal new
        ⊎ StopsBehindFault old (Endpoint refusal) new

    -- a turn: whether the connection goes on, or why the turn stops
    abbrev pub Turn : Caller P S → Result Bool CallerError → Caller P S → Type 0
    Turn old (Ok true) new = GoesOn old new
    Turn old (Ok false) new = IsOver old new
    Turn old (Err e) new = Stops old e new

    -- turns that each go on, one after the other, and what the caller has behind each
    abbrev pub AllGoOn : Caller P S → List (Caller P S) → Caller P S → Type 0
    AllGoOn old [] new = new ≡ old
    AllGoOn old (mid ∷ others) new = GoesOn old mid × AllGoOn mid others new

    -- so many of them
    pub record GoesOnFor (count : ℕ) (old new : Caller P S) : Type 0 where
      pub behind : List (Caller P S)
      pub as_many : length behind ≡ count
      pub go_on : AllGoOn old behind new

    -- behind fewer than 2^64 - 1 of them comes one that is over, or stops
    pub record ComesTo (old : Caller P S) (last : Result Bool CallerError) (new : Caller P S) : Type 0 where
      pub count : ℕ
      pub few : count < 2 ^ 64 - 1
      pub before : Caller P S
      pub go_on : GoesOnFor count old before
      pub turn : Turn before last new

    -- 2^64 - 1 turns go on, and no more are tried
    pub record RunsOut (old : Caller P S) (refusal : StreamError) (new : Caller P S) : Type 0 where
      pub go_on : GoesOnFor (2 ^ 64 - 1) old new
      pub why : error_kind refusal ≡ TimedOut

    -- turns up to the one that is over, or that stops
    abbrev pub Serves : Caller P S → Result (Unit {0}) CallerError → Caller P S → Type 0
    Serves old (Ok done) new = ComesTo old (Ok false) new
    Serves old (Err (Stream refusal)) new = ComesTo old (Err (Stream refusal)) new ⊎ RunsOut old refusal new
    Serves old (Err (Endpoint refusal)) new = ComesTo old (Err (Endpoint refusal)) new
