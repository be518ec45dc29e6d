-- What a contract sees of the fields.
use Rattle.std.specs.Prelude.{◌≡◌, ℕ, ◌+◌, ◌^◌, ◌<◌, ◌≤◌, List, [], ◌∷◌, length, Option, Some, None, Vec}
use Rattle.std.specs.Prelude.{vec_capacity, map, option_map, cond, nat_eq, Bool, ◌++◌, ◌==◌}
use Rattle.std.specs.VecDeque.{deque_len, deque_capacity}
use Rattle.slab.specs.Slab.{Slab, get, with_value, HasRoomFor, Updates}
use Rattle.amqp_session_types.specs.declared.handles.OutputHandle.{OutputHandle}
use Rattle.amqp_session_outgoing.specs.Spots.{spot_of, notes_left, AreNoted}
use Rattle.amqp_session_outgoing.specs.Queues.{Queues, Lists, held_in, firsts_in, frames_in}
use Rattle.amqp_session_outgoing.specs.State.{State}
use Rattle.amqp_session_outgoing.specs.declared.frames.Outbound.{Outbound}
use Rattle.amqp_session_outgoing.specs.declared.turns.Queue.{Queue}
use Rattle.amqp_session_outgoing.specs.declared.turns.Turns.TheInside as turns
use Rattle.amqp_session_outgoing.specs.declared.outgoing.Outgoing.TheInside as outgoing

-- how many frames a place holds at most. It holds none
abbrev pub capacity_of : {F A : Type 0} → Option (Vec F A) → ℕ
capacity_of None = 0
capacity_of (Some frames) = vec_capacity frames

abbrev pub HoldsNone : {F A : Type 0} → Option (Vec F A) → Type 0
HoldsNone None = Unit {0}
HoldsNone (Some frames) = frames.items ≡ []

module _ {T F : Type 0} where
  abbrev pub queues_of : List (Queue T F) → Queues T F
  queues_of items = map (λ q. ((q.handle).0, q.units)) items

  abbrev pub put_before : Option (Queue T F) → List (Queue T F) → List (Queue T F)
  put_before None queues = queues
  put_before (Some queue) queues = queue ∷ queues

  -- the queues that stand at these spots
  abbrev pub queues_at : Slab (Queue T F) → List ℕ → List (Queue T F)
  queues_at slab [] = []
  queues_at slab (spot ∷ turn) = put_before (get slab spot) (queues_at slab turn)

  -- the links whose queues stand at these spots, each with what waits
  abbrev pub waiting_at : Slab (Queue T F) → List ℕ → Queues T F
  waiting_at slab turn = queues_of (queues_at slab turn)

  -- the handle of the link whose queue stands at a spot
  abbrev pub handle_at : Slab (Queue T F) → ℕ → Option ℕ
  handle_at slab spot = option_map (λ q. (q.handle).0) (get slab spot)

  -- each queue has something waiting
  pub record AllWait (slab : Slab (Queue T F)) : Type 0 where
    pub some : (spot : ℕ) (q : Queue T F) → get slab spot ≡ Some q → 0 < length q.units

  -- behind each transfer stand fewer frames than a count goes to
  abbrev pub AllShort : List (Outbound T F) → Type 0
  AllShort [] = Unit {0}
  AllShort (u ∷ us) = (length u.behind < 2 ^ 64) × AllShort us

  abbrev pub EachShort : Queues T F → Type 0
  EachShort [] = Unit {0}
  EachShort (q ∷ qs) = AllShort q.1 × EachShort qs

  -- the transfers of the queue at this spot became others, and nothing else changed
  pub record ChangesQueue (old : Slab (Queue T F)) (spot : ℕ) (change : List (Outbound T F) → List (Outbound T F))
      (new : Slab (Queue T F)) : Type 0 where
    pub before : Queue T F
    pub after : Queue T F
    pub found : get old spot ≡ Some before
    pub changed : new ≡ with_value old spot after
    pub handle : after.handle ≡ before.handle
    pub units : after.units ≡ change before.units

  -- the queue at this spot gave up its first transfer, which may be its last, and nothing else changed
  pub record TakesFirst (old : Slab (Queue T F)) (spot : ℕ) (handle : OutputHandle) (unit : Outbound T F)
      (is_last : Bool) (new : Slab (Queue T F)) : Type 0 where
    pub before : Queue T F
    pub after : Queue T F
    pub found : get old spot ≡ Some before
    pub changed : new ≡ with_value old spot after
    pub link : before.handle ≡ handle
    pub same : after.handle ≡ before.handle
    pub units : before.units ≡ unit ∷ after.units
    pub last : is_last ≡ (length after.units == 0)

  -- the queue at a spot and so many nodes together are fewer than a list takes
  pub record HasFewAt (slab : Slab (Queue T F)) (spot nodes : ℕ) : Type 0 where
    pub few : (q : Queue T F) → get slab spot ≡ Some q → length q.units + nodes < 2 ^ 63

  -- a batch of a link stands at a spot that was vacant. The spot is last in the turn, and is noted
  pub record Joins (turn : List ℕ) (old : Slab (Queue T F)) (noted : ℕ → Option ℕ) (handle : OutputHandle)
      (batch : List (Outbound T F)) (later : List ℕ) (new : Slab (Queue T F)) (notes : ℕ → Option ℕ) : Type 0 where
    pub spot : ℕ
    pub queue : Queue T F
    pub link : queue.handle ≡ handle
    pub units : queue.units ≡ batch
    pub vacant : get old spot ≡ None
    pub updates : Updates old new spot (Some queue)
    pub last : later ≡ turn ++ spot ∷ []
    pub told : (other : ℕ) → notes other ≡ cond (nat_eq handle.0 other) (Some spot) (noted other)

  abbrev pub lists_of : turns.Inside T F → Lists T F
  lists_of s = record { queues = waiting_at s.queues s.turn.items; room = s.room }

  -- the counts are those of what waits, and each link that waits has something waiting. All nodes together are fewer
  -- than a list takes. Each transfer for which room was promised finds a node, and its link a spot and a place in the
  -- turn, and room to note it
  pub record IsSoundTurn (s : turns.Inside T F) : Type 0 where
    pub counted : s.held ≡ held_in (waiting_at s.queues s.turn.items)
    pub waits : AllWait s.queues
    pub total : s.held + s.store < 2 ^ 63
    pub fits : s.room ≤ s.store
    pub place : deque_len s.turn + s.room ≤ deque_capacity s.turn
    pub stands : HasRoomFor s.queues s.room
    pub framed : s.frames ≡ frames_in (waiting_at s.queues s.turn.items)
    pub short : EachShort (waiting_at s.queues s.turn.items)
    pub noted : AreNoted (handle_at s.queues) s.turn.items (spot_of s.spots)
    pub notes : s.room ≤ notes_left s.spots

  abbrev pub state_of : outgoing.Inside T F → State T F
  state_of s =
      record {
        initial_outgoing_id = s.initial_outgoing_id;
        next_outgoing_id = s.next_outgoing_id;
        next_delivery_number = s.next_delivery_number;
        window_base = s.window_base;
        window_width = s.window_width;
        queues = s.turns.queues;
        unsettled = s.unsettled.table;
        room = s.turns.room;
      }

  -- the count is that of the waiting transfers that begin a delivery, and each transfer that waits finds room for its
  -- delivery
  pub record IsSound (s : outgoing.Inside T F) : Type 0 where
    pub firsts : s.firsts ≡ firsts_in s.turns.queues
    pub places : held_in s.turns.queues + s.turns.room ≤ s.unsettled.room
