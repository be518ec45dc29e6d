-- How the sessions of an endpoint stand beside what is read of the frames that pass (part 2, 2.5.1, 2.5.2).
use Rattle.std.specs.Prelude.{◌≡◌, ℕ, ◌+◌, List, [], ◌∷◌, length, Option, Some, None}
use Rattle.std.specs.FinMap as map
use Rattle.amqp_endpoint_tables.specs.declared.place.Place.{Place}
use Rattle.amqp_endpoint_tables.specs.declared.place.Place.TheVariants.{Asked, Live, Ending, Over}
use Rattle.amqp_endpoint_tables.specs.State.{State, asked_on, place_at, routed}
use Rattle.amqp_endpoint_tables.specs.Steps.{Act, Accepts, Asks, Begins, ChangesConnection, Finishes, TakesBegin}
use Rattle.amqp_endpoint_tables.specs.Steps.{TakesEnd}
use Rattle.amqp_endpoint_laws.specs.Reading.{Reader, own_begins, peer_begins, peer_ends, reaches}

-- which channel a session has: none, as there is none, or it is over; that on which the peer asks for it; or an own one
pub data Role : Type 0 where
  Nowhere : Role
  AskedOn : (channel : ℕ) → Role
  Has : (channel : ℕ) → Role
  Gone : Role

-- a channel of the peer's may be led to it: it has a channel, or is over
abbrev pub IsLed : Role → Type 0
IsLed (Has channel) = Unit {0}
IsLed Gone = Unit {0}
IsLed role = ⊥

-- it has no channel
abbrev pub IsOff : Role → Type 0
IsOff Nowhere = Unit {0}
IsOff Gone = Unit {0}
IsOff role = ⊥

-- a session that is read, by the number that it has here, where there were so many before
abbrev pub from : ℕ → Option ℕ → Option ℕ
from base None = None
from base (Some number) = Some (base + number)

module _ {A S : Type 0} where
  abbrev pub role_of : Option (Place A S) → Role
  role_of None = Nowhere
  role_of (Some (Asked channel a)) = AskedOn channel.0
  role_of (Some (Live channel s)) = Has channel.0
  role_of (Some (Ending channel own_end)) = Has channel.0
  role_of (Some (Over peer_end complete)) = Gone

  abbrev pub role_at : State A S → ℕ → Role
  role_at s number = role_of (place_at s number)

  -- each channel in a table is the channel of the session there, and no table has the number of a session that is none
  pub record InTables (s : State A S) : Type 0 where
    pub has : (number channel : ℕ) → role_at s number ≡ Has channel
        → map.get s.connection.live channel ≡ Some number
    pub had : (number channel : ℕ) → map.get s.connection.live channel ≡ Some number
        → role_at s number ≡ Has channel
    pub asks : (number channel : ℕ) → role_at s number ≡ AskedOn channel → map.get s.asked channel ≡ Some number
    pub asked : (number channel other : ℕ) → map.get s.asked channel ≡ Some number
        → role_at s number ≡ AskedOn other → other ≡ channel
    pub led_there : (number channel : ℕ) → map.get s.connection.routes channel ≡ Some number
        → IsLed (role_at s number)
    pub asked_there : (number channel : ℕ) → map.get s.asked channel ≡ Some number → role_at s number ≡ Nowhere → ⊥

  -- no session that is none stands in the table of those for which the peer asks
  pub record Known (s : State A S) : Type 0 where
    pub there : (number channel : ℕ) → map.get s.asked channel ≡ Some number → role_at s number ≡ Nowhere → ⊥

  -- the sessions on the channels are those that were read, where there were so many before the connection
  pub record Agrees (base : ℕ) (r : Reader) (s : State A S) : Type 0 where
    pub count : length s.places ≡ base + r.begun
    pub own : (channel : ℕ) → map.get s.connection.live channel ≡ from base (r.own channel)
    pub led : (channel : ℕ) → routed s channel ≡ from base (r.led channel)
    pub asked : (channel : ℕ) → asked_on s channel ≡ from base (r.asked channel)

  -- what is read as this is done
  abbrev pub behind_step : Reader → Act A S → Reader
  behind_step r (Begins number channel session) = own_begins None channel.0 r
  behind_step r (Asks number channel asked) = peer_begins None channel.0 r
  behind_step r (Accepts number incoming asked outgoing session) = own_begins (Some incoming.0) outgoing.0 r
  behind_step r (TakesBegin number channel begin) = peer_begins begin.remote_channel channel.0 r
  behind_step r (TakesEnd number channel end stood) = peer_ends (reaches r channel.0) r
  behind_step r step = r

  abbrev pub behind_steps : Reader → List (Act A S) → Reader
  behind_steps r [] = r
  behind_steps r (step ∷ steps) = behind_steps (behind_step r step) steps

  -- steps on one connection, which isn't over: its owner gives and takes no channel of its, and leads none
  abbrev pub OnConnection : List (Act A S) → Type 0
  OnConnection [] = Unit {0}
  OnConnection (ChangesConnection before after ∷ steps) =
      (after.live ≡ before.live) × (after.routes ≡ before.routes) × OnConnection steps
  OnConnection (Finishes number stood ∷ steps) = ⊥
  OnConnection (step ∷ steps) = OnConnection steps
