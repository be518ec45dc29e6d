-- What the calls on an endpoint's links do. A call that is refused leaves all as before.
use Rattle.std.specs.Prelude.{◌≡◌, ℕ, ◌<◌, ◌-◌, max, min, List, [], ◌∷◌, ◌++◌, length, Option, Some, None, IsSome}
use Rattle.std.specs.Prelude.{Result, Ok, Err, ⊤}
use Rattle.amqp_session_types.specs.declared.handles.OutputHandle.{OutputHandle}
use Rattle.amqp_endpoint_tables.specs.declared.link_place.LinkPlace.{LinkPlace}
use Rattle.amqp_endpoint_tables.specs.declared.link_place.LinkPlace.TheVariants.{Held, AtRest}
use Rattle.amqp_endpoint_tables.specs.declared.link_place.LinkRefusal.{LinkRefusal}
use Rattle.amqp_endpoint_tables.specs.declared.link_place.LinkRefusal.TheVariants.{NameInUse, Memory}
use Rattle.amqp_endpoint_tables.specs.LinkState.{State, IsNewName, held_at, name_at, place_at, put, rest_at, without}

-- a call, with what it was given and what it answered
pub data Act (L : Type 0) : Type 0 where
  -- room is made for a link with a name
  MakesRoom : (name : List ℕ) → Act L
  -- room that was made is given up, but for so many links
  LowersRoom : (room : ℕ) → Act L
  -- a new link, which a session holds: it gets the next number
  Enters : (number : ℕ) (name : List ℕ) (session : ℕ) (handle : OutputHandle) → Act L
  -- the session that held a link gives it back: it is detached, or the session is over
  Rests : (number : ℕ) (link : L) → Act L
  -- a session holds a link that was at rest: it attaches again
  Holds : (number session : ℕ) (handle : OutputHandle) (link : L) → Act L
  -- the owner changed a link that is at rest
  ChangesAtRest : (number : ℕ) (before after : L) → Act L
  -- a link is closed; where it was
  Closes : (number : ℕ) (place : LinkPlace L) → Act L

module _ {L : Type 0} where
  -- the states around a call
  abbrev pub Step : State L → Act L → State L → Type 0
  Step old (MakesRoom name) new = IsNewName old.links name × (new ≡ record old { room = max old.room 1 })
  Step old (LowersRoom room) new = new ≡ record old { room = min old.room room }
  Step old (Enters number name session handle) new =
      IsNewName old.links name × (0 < old.room) × (number ≡ length old.links)
      × (new ≡ record {
        links = old.links ++ Some (record { name = name; place = Held session handle }) ∷ [];
        room = old.room - 1;
      })
  Step old (Rests number link) new = IsSome (held_at old number) × (new ≡ put old number (AtRest link))
  Step old (Holds number session handle link) new =
      (rest_at old number ≡ Some link) × (new ≡ put old number (Held session handle))
  Step old (ChangesAtRest number before after) new =
      (rest_at old number ≡ Some before) × (new ≡ put old number (AtRest after))
  Step old (Closes number place) new = (place_at old number ≡ Some place) × (new ≡ without old number)

  -- the states around a list of calls
  abbrev pub History : State L → List (Act L) → State L → Type 0
  History start [] end = end ≡ start
  History start (step ∷ steps) end = (mid : State L) × Step start step mid × History mid steps end

  -- room is made for a new link, unless one has its name or there is no memory
  abbrev pub RoomMade : State L → List ℕ → Result (List ℕ) LinkRefusal → State L → Type 0
  RoomMade old name (Ok given) new = (given ≡ name) × Step old (MakesRoom name) new
  RoomMade old name (Err NameInUse) new = ((number : ℕ) × (name_at old number ≡ Some name)) × (new ≡ old)
  RoomMade old name (Err Memory) new = IsNewName old.links name × (new ≡ old)

  -- a link is entered, unless one has its name or no room was made for it
  abbrev pub Entered : State L → List ℕ → ℕ → OutputHandle → Result ℕ LinkRefusal → State L → Type 0
  Entered old name session handle (Ok number) new = Step old (Enters number name session handle) new
  Entered old name session handle (Err NameInUse) new = ((number : ℕ) × (name_at old number ≡ Some name)) × (new ≡ old)
  Entered old name session handle (Err Memory) new = IsNewName old.links name × (old.room ≡ 0) × (new ≡ old)

  -- a link comes back, where a session holds it
  abbrev pub Rested : State L → ℕ → L → Result ⊤ L → State L → Type 0
  Rested old number link (Ok done) new = Step old (Rests number link) new
  Rested old number link (Err back) new = (held_at old number ≡ None) × (back ≡ link) × (new ≡ old)

  -- a link is handed out, where it is at rest
  abbrev pub HandedOut : State L → ℕ → ℕ → OutputHandle → Option L → State L → Type 0
  HandedOut old number session handle (Some link) new = Step old (Holds number session handle link) new
  HandedOut old number session handle None new = (rest_at old number ≡ None) × (new ≡ old)

  -- a link is closed, where it isn't
  abbrev pub Closed : State L → ℕ → Option (LinkPlace L) → State L → Type 0
  Closed old number (Some place) new = Step old (Closes number place) new
  Closed old number None new = (place_at old number ≡ None) × (new ≡ old)
