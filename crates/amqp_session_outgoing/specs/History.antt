-- What the calls of the sending side of a session do, and histories of them. A refused call leaves all as before.
use Rattle.std.specs.Prelude.{◌≡◌, ℕ, ◌+◌, ◌%◌, ◌^◌, ◌<◌, List, [], ◌∷◌, ◌++◌, Option, None, max}
use Rattle.std.specs.FinMap as map
use Rattle.amqp_session_types.specs.declared.handles.OutputHandle.{OutputHandle}
use Rattle.amqp_session_outgoing.specs.Outside.{outside}
use Rattle.amqp_session_outgoing.specs.Table.{unless_of}
use Rattle.amqp_session_outgoing.specs.declared.range.DeliveryRange.{DeliveryRange}
use Rattle.amqp_session_outgoing.specs.Frames.{firsts_of, HaveTags}
use Rattle.amqp_session_outgoing.specs.Queues.{firsts_in, FollowsIn}
use Rattle.amqp_session_outgoing.specs.State.{State, Leaves, IsHeld, with_window, with_batch}
use Rattle.amqp_session_outgoing.specs.declared.error.TransferError.{TransferError}
use Rattle.amqp_session_outgoing.specs.declared.error.TransferError.TheVariants.{IllegalState, NumberInUse, Memory}
use Rattle.amqp_session_outgoing.specs.declared.frames.Outbound.{Outbound}
use Rattle.amqp_session_outgoing.specs.declared.frames.Sent.{Sent}

-- the number of the delivery that begins behind so many others that wait is no unsettled delivery's, and none of theirs
abbrev pub IsFree : {T F : Type 0} → State T F → ℕ → Type 0
IsFree s others = (others < 2 ^ 32) × (map.get s.unsettled ((s.next_delivery_number + others) % 2 ^ 32) ≡ None)

-- so are the numbers of all deliveries that begin in a batch
abbrev pub HasFreeNumbers : {T F : Type 0} → State T F → List (Outbound T F) → Type 0
HasFreeNumbers s batch = (i : ℕ) → i < firsts_of batch → IsFree s (firsts_in s.queues + i)

-- a call, what it was given and answered, and what left in it
pub data Act (T F : Type 0) : Type 0 where
  -- the peer's window is taken: its first number, and how many
  TakesWindow : (base width : ℕ) (left : List (Sent T F)) → Act T F
  -- the peer's window is set: its first number, and how many. Nothing leaves
  SetsWindow : (base width : ℕ) → Act T F
  -- a batch of a link is accepted
  Accepts : (handle : OutputHandle) (batch : List (Outbound T F)) (left : List (Sent T F)) → Act T F
  -- a batch is refused
  Refuses : (batch : List (Outbound T F)) (error : TransferError) → Act T F
  -- another frame of a link is accepted, which leaves at once or waits
  Follows : (handle : OutputHandle) (frame : F) (left : Option F) → Act T F
  -- room is made for so many transfers
  Reserves : (count : ℕ) → Act T F
  -- a delivery is settled
  Settles : (number : ℕ) → Act T F
  -- the deliveries that a disposition names are settled
  SettlesRange : (range : DeliveryRange) → Act T F
  -- a handle is given back
  Forgets : (handle : OutputHandle) → Act T F
  -- there was no memory
  Fails : Act T F

module _ {T F : Type 0} where
  -- why a batch is refused: a delivery without a tag, then a number that is in use, then want of memory outside of the
  -- room that was made
  abbrev pub RefusesBatch : State T F → List (Outbound T F) → TransferError → Type 0
  RefusesBatch s batch IllegalState = HaveTags batch → ⊥
  RefusesBatch s batch NumberInUse = HaveTags batch × (HasFreeNumbers s batch → ⊥)
  RefusesBatch s batch Memory = HaveTags batch × HasFreeNumbers s batch

  -- a batch is accepted whole, and what the window allows leaves
  abbrev pub AcceptsBatch : State T F → OutputHandle → List (Outbound T F) → List (Sent T F) → State T F → Type 0
  AcceptsBatch old handle [] left new = (left ≡ []) × (new ≡ old)
  AcceptsBatch old handle (u ∷ us) left new =
      HaveTags (u ∷ us) × HasFreeNumbers old (u ∷ us) × Leaves (with_batch old handle.0 (u ∷ us)) left new × IsHeld new

  -- the states around a call
  abbrev pub Step : State T F → Act T F → State T F → Type 0
  Step old (TakesWindow base width left) new = Leaves (with_window old base width) left new × IsHeld new
  Step old (SetsWindow base width) new = new ≡ with_window old base width
  Step old (Accepts handle batch left) new = AcceptsBatch old handle batch left new
  Step old (Refuses batch error) new = RefusesBatch old batch error × (new ≡ old)
  Step old (Follows handle frame left) new =
      FollowsIn handle.0 frame left old.queues new.queues × (new ≡ record old { queues = new.queues })
  Step old (Reserves count) new = new ≡ record old { room = max old.room count }
  Step old (Settles number) new = new ≡ record old { unsettled = map.remove old.unsettled number }
  Step old (SettlesRange range) new = new ≡ record old { unsettled = outside range old.unsettled }
  Step old (Forgets handle) new =
      ((number : ℕ) → map.get new.unsettled number ≡ unless_of handle.0 (map.get old.unsettled number))
      × (new ≡ record old { unsettled = new.unsettled })
  Step old Fails new = new ≡ old

  abbrev pub History : State T F → List (Act T F) → State T F → Type 0
  History start [] end = end ≡ start
  History start (step ∷ steps) end = (mid : State T F) × Step start step mid × History mid steps end

  -- a step in which these transfers were handed out
  pub record Takes (step : List (Sent T F) → Act T F) (old : State T F) (out : List (Sent T F)) (new : State T F)
      (out_new : List (Sent T F)) : Type 0 where
    pub left : List (Sent T F)
    pub added : out_new ≡ out ++ left
    pub stepped : Step old (step left) new

  -- a session as it begins, with the number of its first transfer. It has no window until the peer's Begin came
  abbrev pub fresh : ℕ → State T F
  fresh first =
      record {
        initial_outgoing_id = first;
        next_outgoing_id = first;
        next_delivery_number = 0;
        window_base = first;
        window_width = 0;
        queues = [];
        unsettled = map.empty;
        room = 0;
      }
