-- What waits in a session: the links that wait, in turn, each with its waiting transfers.
use Rattle.std.specs.Prelude.{◌≡◌, ◌≢◌, ℕ, ◌+◌, ◌<◌, ◌==◌, List, [], ◌∷◌, ◌++◌, length, map, Option, Some, None}
use Rattle.std.specs.Prelude.{if◌then◌else◌}
use Rattle.amqp_session_types.specs.declared.handles.OutputHandle.{OutputHandle}
use Rattle.amqp_session_outgoing.specs.Frames.{LinkFrame, frames_of, firsts_of, frames_count, last_room}
use Rattle.amqp_session_outgoing.specs.declared.frames.Outbound.{Outbound}

abbrev pub Queues : Type 0 → Type 0 → Type 0
Queues T F = List (ℕ × List (Outbound T F))

-- the links that wait, and how many transfers more are sure to find room
pub record Lists (T F : Type 0) : Type 0 where
  pub queues : List (ℕ × List (Outbound T F))
  pub room : ℕ

module _ {T F : Type 0} where
  -- no link with this handle waits
  abbrev pub Absent : ℕ → Queues T F → Type 0
  Absent handle [] = Unit {0}
  Absent handle (q ∷ qs) = (q.0 ≢ handle) × Absent handle qs

  -- each link that waits stands in the turn once
  abbrev pub Distinct : Queues T F → Type 0
  Distinct [] = Unit {0}
  Distinct (q ∷ qs) = Absent q.0 qs × Distinct qs

  -- how many transfers wait
  abbrev pub held_in : Queues T F → ℕ
  held_in [] = 0
  held_in (q ∷ qs) = length q.1 + held_in qs

  -- the links that wait, in turn, each with how many of its transfers wait
  abbrev pub turn_of : Queues T F → List (OutputHandle × ℕ)
  turn_of queues = map (λ q. (record { 0 = q.0 }, length q.1)) queues

  -- how many transfers wait that begin a delivery
  abbrev pub firsts_in : Queues T F → ℕ
  firsts_in [] = 0
  firsts_in (q ∷ qs) = firsts_of q.1 + firsts_in qs

  -- how many frames wait: the transfers, and the frames behind them
  abbrev pub frames_in : Queues T F → ℕ
  frames_in [] = 0
  frames_in (q ∷ qs) = frames_count q.1 + frames_in qs

  -- the transfers of a link that wait
  abbrev pub units_of : ℕ → Queues T F → List (Outbound T F)
  units_of handle [] = []
  units_of handle (q ∷ qs) = if q.0 == handle then q.1 else units_of handle qs

  -- how much room so many frames of a link take behind the last of its transfers that wait: for those that are there
  -- and for themselves. Where none waits they leave at once, and take none
  abbrev pub room_behind : ℕ → ℕ → Queues T F → ℕ
  room_behind handle count queues = last_room count (units_of handle queues)

  -- the frames of a link that wait
  abbrev pub waiting_of : ℕ → Queues T F → List (LinkFrame T F)
  waiting_of handle queues = frames_of (units_of handle queues)

  -- a link that has sent stands last if a transfer of it still waits, and else leaves the turn
  abbrev pub rejoined : ℕ → List (Outbound T F) → Queues T F → Queues T F
  rejoined handle [] others = others
  rejoined handle (u ∷ us) others = others ++ (handle, u ∷ us) ∷ []

  abbrev pub TakesTurnOf : ℕ → List (Outbound T F) → Queues T F → ℕ → Outbound T F → Queues T F → Type 0
  TakesTurnOf first [] others handle taken new = ⊥
  TakesTurnOf first (u ∷ us) others handle taken new = (handle ≡ first) × (taken ≡ u) × (new ≡ rejoined first us others)

  -- the first link of the turn gives up its first transfer, with the frames behind it
  abbrev pub TakesTurn : Queues T F → ℕ → Outbound T F → Queues T F → Type 0
  TakesTurn [] handle taken new = ⊥
  TakesTurn (q ∷ others) handle taken new = TakesTurnOf q.0 q.1 others handle taken new

  -- the link's transfers wait behind those that it has waiting, and a link that had none joins the turn at its end
  abbrev pub joined : ℕ → List (Outbound T F) → Queues T F → Queues T F
  joined handle batch [] = (handle, batch) ∷ []
  joined handle batch (q ∷ others) =
      if q.0 == handle then (handle, q.1 ++ batch) ∷ others else q ∷ joined handle batch others

  -- a frame goes behind the last of these transfers
  abbrev pub trailed : F → List (Outbound T F) → List (Outbound T F)
  trailed frame [] = []
  trailed frame (u ∷ []) = record u { behind = u.behind ++ frame ∷ [] } ∷ []
  trailed frame (u ∷ v ∷ us) = u ∷ trailed frame (v ∷ us)

  -- a frame of the link goes behind the transfers that it has waiting
  abbrev pub followed : ℕ → F → Queues T F → Queues T F
  followed handle frame [] = []
  followed handle frame (q ∷ others) =
      if q.0 == handle then (q.0, trailed frame q.1) ∷ others else q ∷ followed handle frame others

  -- a frame of the link goes behind the transfers that it has waiting; where it has none the frame leaves at once
  abbrev pub FollowsIn : ℕ → F → Option F → Queues T F → Queues T F → Type 0
  FollowsIn handle frame None old new = (0 < length (units_of handle old)) × (new ≡ followed handle frame old)
  FollowsIn handle frame (Some left) old new = (units_of handle old ≡ []) × (left ≡ frame) × (new ≡ old)
