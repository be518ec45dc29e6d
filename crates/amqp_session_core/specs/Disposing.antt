-- How a session takes a disposition, part by part.
use Rattle.std.specs.Prelude.{◌≡◌, ℕ, ◌+◌, ◌%◌, ◌^◌, ◌==◌, List, [], ◌∷◌, Bool, false, Option, Some, None, All}
use Rattle.std.specs.Prelude.{map, length, ◌≤◌, if◌then◌else◌, slice_index_or}
use Rattle.std.specs.FinMap as tables
use Rattle.amqp_session_types.specs.declared.modes.Role.{Role}
use Rattle.amqp_session_states.specs.declared.delivery_state.DeliveryState.{DeliveryState}
use Rattle.amqp_session_performatives.specs.declared.disposition.Disposition.{Disposition}
use Rattle.amqp_session_types.specs.declared.modes.Role.TheVariants.{Sender, Receiver}
use Rattle.amqp_session_outgoing.specs.Table.{Table, Deliveries}
use Rattle.amqp_session_outgoing.specs.Touched.{Touches}
use Rattle.amqp_session_core.specs.declared.dispositions.Touched.{Touched}
use Rattle.amqp_session_core.specs.declared.dispositions.DispositionRoom.{DispositionRoom}
use Rattle.amqp_session_outgoing.specs.declared.delivery.Delivery.{Delivery}
use Rattle.amqp_session_outgoing.specs.State as sending
use Rattle.amqp_session_core.specs.declared.batch.TransferFrame.{TransferFrame}
use Rattle.amqp_session_core.specs.declared.batch.BehindFrame.{BehindFrame}
use Rattle.amqp_session_outgoing.specs.Outside.{outside}
use Rattle.amqp_session_outgoing.specs.Range.{range_of}
use Rattle.amqp_session_core.specs.State.{State, StepsAt}
use Rattle.amqp_session_core.specs.Echoes.{Reach, Walks, echoed, opposite}
use Rattle.amqp_session_core.specs.Steps.{table_of, with_table}

-- so many copies of a state
pub record AreCopies (state : Option DeliveryState) (states : List (Option DeliveryState)) (count : ℕ) : Type 0 where
  pub each : All (λ s. s ≡ state) states
  pub enough : length states ≡ count

-- a delivery is that of its number, with the handle of its link and the link's tag
abbrev pub StandsIn : Table → Touched → Type 0
StandsIn table t = tables.get table t.number ≡ Some (record { handle = t.handle; tag = t.tag })

-- the numbers of deliveries
abbrev pub each_number : List Touched → List ℕ
each_number touched = map (λ t. t.number) touched

-- the deliveries that a disposition touches, each once, in order from the first of its range (part 2, 2.7.6)
pub record AreTouched (d : Disposition) (table : Table) (touched : List Touched) : Type 0 where
  pub numbers : Touches (range_of d.first d.last) table (each_number touched)
  pub deliveries : All (StandsIn table) touched

-- room for the way of a disposition to the links of its deliveries
pub record HasRoomFor (d : Disposition) (table : Table) (room : DispositionRoom) : Type 0 where
  pub numbers : Touches (range_of d.first d.last) table room.numbers.items
  pub states : AreCopies d.state room.states.items (length room.numbers.items)
  pub echoed : room.echoed.items ≡ []
  pub echoed_room : length room.numbers.items ≤ room.echoed.capacity
  pub runs : room.runs.items ≡ []
  pub runs_room : length room.numbers.items ≤ room.runs.capacity

-- a number goes on with the last run, or begins another
abbrev pub behind_runs : List (ℕ × ℕ) → ℕ → List (ℕ × ℕ)
behind_runs [] n = (n, n) ∷ []
behind_runs (r ∷ []) n = if (r.1 + 1) % 2 ^ 32 == n then (r.0, n) ∷ [] else r ∷ (n, n) ∷ []
behind_runs (r ∷ s ∷ runs) n = r ∷ behind_runs (s ∷ runs) n

-- deliveries reached their links, and these want it echoed
pub record Walked {R : Type 0} (gives : R → List ℕ → Role → Bool → Option DeliveryState → Bool → R → Type 0)
    (d : Disposition) (table : Table) (numbers : List ℕ) (old : List (Option R)) (echoes : List ℕ)
    (new : List (Option R)) : Type 0 where
  pub walk : List Reach
  pub walked : Walks gives d table numbers old walk new
  pub echoes_are : echoes ≡ echoed walk

-- the session without the deliveries that an own disposition settles
abbrev pub settled_own : {R : Type 0} → Disposition → State R → State R
settled_own d s =
    if d.settled then with_table (opposite d.role) (outside (range_of d.first d.last) (table_of (opposite d.role) s))
    s else s

-- the unsettled deliveries, where the peer has this role
abbrev pub deliveries_of : Role → sending.State TransferFrame BehindFrame → Deliveries → Table
deliveries_of Receiver outgoing received = outgoing.unsettled
deliveries_of Sender outgoing received = received.table

-- a delivery reaches its link with this state, if that is there
abbrev pub ReachesOneAt : {R : Type 0} → (R → List ℕ → Role → Bool → Option DeliveryState → Bool → R → Type 0)
    → Option R → Delivery → Disposition → Option DeliveryState → List (Option R) → Bool → List (Option R) → Type 0
ReachesOneAt gives None delivery d state old echo new = (echo ≡ false) × (new ≡ old)
ReachesOneAt gives (Some link) delivery d state old echo new =
    StepsAt (λ before after. gives before delivery.tag d.role d.settled state echo after) old (delivery.handle).0 new

abbrev pub ReachesOne : {R : Type 0} → (R → List ℕ → Role → Bool → Option DeliveryState → Bool → R → Type 0) → Delivery
    → Disposition → Option DeliveryState → List (Option R) → Bool → List (Option R) → Type 0
ReachesOne gives delivery d state old echo new =
    ReachesOneAt gives (slice_index_or old (delivery.handle).0 None) delivery d state old echo new
