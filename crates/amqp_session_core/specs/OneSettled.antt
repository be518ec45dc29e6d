-- A session takes a disposition at once that settles one delivery which it sent, beside `DispositionTaken`, by which it
-- takes any: part 2, 2.6.12 and 2.7.6.
use Rattle.std.specs.Prelude.{◌≡◌, ℕ, ◌<◌, ◌^◌, Bool, true, List, [], ◌∷◌, Option, Some, None, map, if◌then◌else◌}
use Rattle.smallvec.specs.SmallVec.{SmallVec}
use Rattle.amqp_session_types.specs.declared.modes.Role.TheVariants.{Receiver}
use Rattle.amqp_session_performatives.specs.declared.disposition.Disposition.{Disposition}
use Rattle.amqp_session_outgoing.specs.Range.{range_of}
use Rattle.amqp_session_core.specs.declared.settled.SettledAtOnce.{SettledAtOnce}
use Rattle.amqp_session_core.specs.Disposing.{AreTouched, ReachesOne}
use Rattle.amqp_session_core.specs.Echoes.{echo_of}
use Rattle.amqp_session_core.specs.Relay.{Relations}
use Rattle.amqp_session_core.specs.State.{State}
use Rattle.amqp_session_core.specs.Steps.{table_of}
use Rattle.amqp_session_core.specs.Told.{DispositionTaken}

-- a range of numbers has that alone with which it begins
abbrev pub IsAlone : ℕ → Option ℕ → Type 0
IsAlone first last = (first < 2 ^ 32) × (range_of first last ≡ record { first = first; count = 1 })

-- the peer, as the receiver, settles the delivery of one number
pub record SettlesFirst (d : Disposition) : Type 0 where
  pub role : d.role ≡ Receiver
  pub settled : d.settled ≡ true
  pub alone : IsAlone d.first d.last

-- the runs of deliveries that go back: the one of this delivery, where its link wants it echoed
abbrev pub runs_if : Bool → ℕ → List (ℕ × ℕ)
runs_if is_echoed number = if is_echoed then (number, number) ∷ [] else []

-- as a session answers with them: so few lie in the value itself
abbrev pub few_runs : List (ℕ × ℕ) → SmallVec (ℕ × ℕ)
few_runs runs = record { items = runs; capacity = 4 }

module _ {R A T D : Type 0} (gives : Relations R A T D) where
  -- the disposition settles one delivery alone, which reaches its link. It is taken as any is, and nothing that the
  -- session tells of itself or that waits for the peer's window changes
  pub record SettlesOne (old : State R) (d : Disposition) (settled : SettledAtOnce) (new : State R) : Type 0 where
    pub is_settled : d.settled ≡ true
    pub touched : AreTouched d (table_of d.role old) (settled.delivery ∷ [])
    pub taken : DispositionTaken gives old d (map (echo_of d) (runs_if settled.is_echoed settled.delivery.number)) new
    pub reaches : ReachesOne gives.disposes
        (record { handle = settled.delivery.handle; tag = settled.delivery.tag }) d d.state old.links settled.is_echoed
        new.links
    pub fields : new.fields ≡ old.fields
    pub waits : (new.outgoing).queues ≡ (old.outgoing).queues

  -- or nothing changes
  abbrev pub SettlesAtOnce : State R → Disposition → Option SettledAtOnce → State R → Type 0
  SettlesAtOnce old d None new = new ≡ old
  SettlesAtOnce old d (Some settled) new = SettlesOne old d settled new
