-- What the calls of an endpoint's sessions do. A call that is refused leaves all as before.
use Rattle.std.specs.Prelude.{◌≡◌, ℕ, ◌≤◌, ◌<◌, List, [], ◌∷◌, ◌++◌, length, slice_set, Bool, true, false, Option, Some}
use Rattle.std.specs.Prelude.{None, IsSome, Result, Ok, Err, ⊤}
use Rattle.std.specs.FinMap as map
use Rattle.amqp_session_types.specs.declared.channels.IncomingChannel.{IncomingChannel}
use Rattle.amqp_session_types.specs.declared.channels.OutgoingChannel.{OutgoingChannel}
use Rattle.amqp_session_types.specs.declared.refusals.BeginError.{BeginError}
use Rattle.amqp_session_types.specs.declared.refusals.BeginError.TheVariants.{IllegalState}
use Rattle.amqp_session_types.specs.declared.refusals.ConnectionError.{ConnectionError}
use Rattle.amqp_session_types.specs.declared.refusals.ConnectionError.TheVariants.{NotAllowed, NotFound, Memory}
use Rattle.amqp_session_types.specs.declared.refusals.TryEndError.{TryEndError}
use Rattle.amqp_session_types.specs.declared.refusals.TryEndError.TheVariants.{RemoteEndNotReceived, AlreadyEnded}
use Rattle.amqp_session_performatives.specs.declared.begin.Begin.{Begin}
use Rattle.amqp_session_performatives.specs.declared.end.End.{End}
use Rattle.amqp_session_frames.specs.State as channels
use Rattle.amqp_session_frames.specs.Steps as connection_steps
use Rattle.amqp_session_frames.specs.Steps.{RefusesSession}
use Rattle.amqp_endpoint_tables.specs.declared.place.PeerEnd.{PeerEnd}
use Rattle.amqp_endpoint_tables.specs.declared.place.PeerEnd.TheVariants.{Missing, Received, Told}
use Rattle.amqp_endpoint_tables.specs.declared.place.Place.{Place}
use Rattle.amqp_endpoint_tables.specs.declared.place.Place.TheVariants.{Asked, Live, Ending, Over}
use Rattle.amqp_endpoint_tables.specs.State.{State, place_at, asked_at, live_at, reached, routed, ended_place}
use Rattle.amqp_endpoint_tables.specs.State.{finished_place, peer_end_of, told_place}
use Rattle.amqp_endpoint_tables.specs.Lends.{set_asked, set_live}

-- a call, with what it was given and what it answered
pub data Act (A S : Type 0) : Type 0 where
  -- the owner moved the connection on: a header, an Open or a Close
  ChangesConnection : (before after : channels.State) → Act A S
  -- an own session begins on the offered channel, and gets the next number
  Begins : (number : ℕ) (channel : OutgoingChannel) (session : S) → Act A S
  -- the peer asks for a session on its channel
  Asks : (number : ℕ) (channel : IncomingChannel) (asked : A) → Act A S
  -- a session that the peer asked for on its channel begins on the offered channel
  Accepts : (number : ℕ) (incoming : IncomingChannel) (asked : A) (outgoing : OutgoingChannel) (session : S) → Act A S
  -- the peer's Begin leads its channel to the session whose channel it names
  TakesBegin : (number : ℕ) (channel : IncomingChannel) (begin : Begin) → Act A S
  -- the peer's End on its channel; where the session stood
  TakesEnd : (number : ℕ) (channel : IncomingChannel) (end : End) (stood : Place A S) → Act A S
  -- the own side of a session is over: by an own End, or without one, as the own Close is sent
  Ends : (number : ℕ) (channel : OutgoingChannel) (session : S) (own_end : Bool) → Act A S
  -- the connection of a session is over; where it stood
  Finishes : (number : ℕ) (stood : Place A S) → Act A S
  -- the caller is told of the peer's End
  TellsEnd : (number : ℕ) → Act A S
  -- the owner changed a session that is asked for, or that has begun
  ChangesAsked : (number : ℕ) (before after : A) → Act A S
  ChangesLive : (number : ℕ) (before after : S) → Act A S

-- an outgoing channel is given to a session, and the peer's channel is led to it (part 2, 2.5.1)
pub record GivesChannel (old : channels.State) (incoming : IncomingChannel) (number : ℕ) (outgoing : OutgoingChannel)
    (new : channels.State) : Type 0 where
  pub mid : channels.State
  pub given : connection_steps.Step old (connection_steps.AllocatesSession number (Ok outgoing)) mid
  pub led : connection_steps.Step mid (connection_steps.AcceptsRoute incoming number (Ok tt)) new

-- the peer's channel leads nowhere any more, and the outgoing channel is taken back (part 2, 2.5.2)
pub record TakesChannelBack (old : channels.State) (incoming : IncomingChannel) (end : End) (number : ℕ)
    (outgoing : OutgoingChannel) (new : channels.State) : Type 0 where
  pub mid : channels.State
  pub ended : connection_steps.Step old (connection_steps.TakesEnd incoming end (Ok number)) mid
  pub back : connection_steps.Step mid (connection_steps.DeallocatesSession outgoing) new

abbrev pub refusal_of_try_end : PeerEnd → Result ⊤ TryEndError
refusal_of_try_end Missing = Err RemoteEndNotReceived
refusal_of_try_end Received = Ok tt
refusal_of_try_end Told = Err AlreadyEnded

module _ {A S : Type 0} where
  -- the connection behind the peer's End, by where its session stood
  abbrev pub EndTaken : State A S → ℕ → IncomingChannel → End → Place A S → State A S → Type 0
  EndTaken old number channel end (Asked asked_on a) new =
      (routed old channel.0 ≡ None)
      × (new ≡ record old {
        places = slice_set old.places number (ended_place (Asked asked_on a));
        asked = map.remove old.asked channel.0;
      })
  EndTaken old number channel end (Live outgoing s) new =
      TakesChannelBack old.connection channel end number outgoing new.connection
      × (new ≡ record old {
        connection = new.connection;
        places = slice_set old.places number (ended_place (Live outgoing s));
      })
  EndTaken old number channel end (Ending outgoing own_end) new =
      TakesChannelBack old.connection channel end number outgoing new.connection
      × (new ≡ record old {
        connection = new.connection;
        places = slice_set old.places number (ended_place (Ending outgoing own_end));
      })
  EndTaken old number channel end (Over peer_end complete) new = ⊥

  -- what belongs to a place is given back as the connection is over
  abbrev pub GivesBack : State A S → Place A S → channels.State → channels.Table → Type 0
  GivesBack old (Asked channel a) c asked = (c ≡ old.connection) × (asked ≡ map.remove old.asked channel.0)
  GivesBack old (Live channel s) c asked =
      connection_steps.Step old.connection (connection_steps.DeallocatesSession channel) c × (asked ≡ old.asked)
  GivesBack old (Ending channel own_end) c asked =
      connection_steps.Step old.connection (connection_steps.DeallocatesSession channel) c × (asked ≡ old.asked)
  GivesBack old (Over peer_end complete) c asked = (c ≡ old.connection) × (asked ≡ old.asked)

  -- the states around a call
  abbrev pub Step : State A S → Act A S → State A S → Type 0
  Step old (ChangesConnection before after) new = (before ≡ old.connection) × (new ≡ record old { connection = after })
  Step old (Begins number channel session) new =
      connection_steps.Step old.connection (connection_steps.AllocatesSession number (Ok channel)) new.connection
      × (number ≡ length old.places)
      × (new ≡ record old { connection = new.connection; places = old.places ++ Live channel session ∷ [] })
  Step old (Asks number channel asked) new =
      (reached old channel.0 ≡ None)
      × (number ≡ length old.places)
      × (new ≡ record old {
        places = old.places ++ Asked channel asked ∷ [];
        asked = map.insert old.asked channel.0 number;
      })
  Step old (Accepts number incoming asked outgoing session) new =
      (place_at old number ≡ Some (Asked incoming asked))
      × GivesChannel old.connection incoming number outgoing new.connection
      × (new ≡ record old {
        connection = new.connection;
        places = slice_set old.places number (Live outgoing session);
        asked = map.remove old.asked incoming.0;
      })
  Step old (TakesBegin number channel begin) new =
      connection_steps.Step old.connection (connection_steps.TakesBegin channel begin (Ok number)) new.connection
      × (new ≡ record old { connection = new.connection })
  Step old (TakesEnd number channel end stood) new =
      (reached old channel.0 ≡ Some number) × (place_at old number ≡ Some stood)
      × EndTaken old number channel end stood new
  Step old (Ends number channel session own_end) new =
      (place_at old number ≡ Some (Live channel session))
      × (new ≡ record old { places = slice_set old.places number (Ending channel own_end) })
  Step old (Finishes number stood) new =
      (place_at old number ≡ Some stood)
      × GivesBack old stood new.connection new.asked
      × (new ≡ record old {
        connection = new.connection;
        places = slice_set old.places number (finished_place stood);
        asked = new.asked;
      })
  Step old (TellsEnd number) new =
      (stood : Place A S) × (place_at old number ≡ Some stood) × (peer_end_of (Some stood) ≡ Received)
      × (new ≡ record old { places = slice_set old.places number (told_place stood) })
  Step old (ChangesAsked number before after) new =
      (asked_at old number ≡ Some before) × (new ≡ set_asked old number after)
  Step old (ChangesLive number before after) new =
      (live_at old number ≡ Some before) × (new ≡ set_live old number after)

  -- the states around a list of calls
  abbrev pub History : State A S → List (Act A S) → State A S → Type 0
  History start [] end = end ≡ start
  History start (step ∷ steps) end = (mid : State A S) × Step start step mid × History mid steps end

  -- why the peer's Begin asks for no session: its channel reaches one already, or there is no memory
  abbrev pub RefusesAsk : State A S → ℕ → ConnectionError → Type 0
  RefusesAsk s channel NotAllowed = IsSome (reached s channel)
  RefusesAsk s channel Memory = reached s channel ≡ None
  RefusesAsk s channel e = ⊥

  -- why a session isn't accepted: none is asked for with this number, or it gets no channel
  abbrev pub RefusesAccept : State A S → ℕ → BeginError → Type 0
  RefusesAccept s number IllegalState = asked_at s number ≡ None
  RefusesAccept s number e = IsSome (asked_at s number) × RefusesSession s.connection e

  -- the peer's End is taken, or no session is reached
  abbrev pub EndAnswered : State A S → IncomingChannel → End → Result (ℕ × Place A S) ConnectionError → State A S
      → Type 0
  EndAnswered old channel end (Ok told) new = Step old (TakesEnd told.0 channel end told.1) new
  EndAnswered old channel end (Err e) new = (e ≡ NotFound) × (reached old channel.0 ≡ None) × (new ≡ old)

  -- the own side of a session is over, where it has begun, by an own End or without one
  abbrev pub EndSent : Bool → State A S → ℕ → Option (OutgoingChannel × S) → State A S → Type 0
  EndSent own_end old number (Some given) new = Step old (Ends number given.0 given.1 own_end) new
  EndSent own_end old number None new = (live_at old number ≡ None) × (new ≡ old)

  -- the connection of a session is over, where there is one with this number
  abbrev pub Finished : State A S → ℕ → Option (Place A S) → State A S → Type 0
  Finished old number (Some stood) new = Step old (Finishes number stood) new
  Finished old number None new = (place_at old number ≡ None) × (new ≡ old)

  -- whether the peer's End came is told once
  abbrev pub EndTold : State A S → ℕ → Result ⊤ TryEndError → State A S → Type 0
  EndTold old number (Ok done) new = Step old (TellsEnd number) new
  EndTold old number (Err e) new =
      (refusal_of_try_end (peer_end_of (place_at old number)) ≡ Err e) × (new ≡ old)
