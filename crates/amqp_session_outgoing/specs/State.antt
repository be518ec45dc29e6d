-- What a contract sees of the sending side of a session, and how transfers leave it.
use Rattle.std.specs.Prelude.{◌≡◌, ℕ, ◌+◌, ◌%◌, ◌^◌, ◌<◌, ◌≤◌, ◌-◌, List, [], ◌∷◌, ◌++◌, length, Option, Some, None}
use Rattle.std.specs.Prelude.{if◌then◌else◌}
use Rattle.std.specs.Ordering.{nat_cmp}
use Rattle.std.specs.FinMap as map
use Rattle.amqp_session_types.specs.declared.handles.OutputHandle.{OutputHandle}
use Rattle.amqp_session_outgoing.specs.Range.{ahead}
use Rattle.amqp_session_outgoing.specs.Table.{Table}
use Rattle.amqp_session_outgoing.specs.declared.delivery.Delivery.{Delivery}
use Rattle.amqp_session_outgoing.specs.Frames.{is_first}
use Rattle.amqp_session_outgoing.specs.Queues.{Queues, held_in, TakesTurn, joined, rejoined}
use Rattle.amqp_session_outgoing.specs.declared.frames.Part.{Part}
use Rattle.amqp_session_outgoing.specs.declared.frames.Part.TheVariants.{Untagged, Settled, Unsettled, Continuation}
use Rattle.amqp_session_outgoing.specs.declared.frames.Outbound.{Outbound}
use Rattle.amqp_session_outgoing.specs.declared.frames.Sent.{Sent}

pub record State (T F : Type 0) : Type 0 where
  -- the number of the session's first transfer
  pub initial_outgoing_id : ℕ
  -- the number of the next transfer to leave (part 2, 2.5.6)
  pub next_outgoing_id : ℕ
  -- the number of the next delivery to leave
  pub next_delivery_number : ℕ
  -- the peer's window: the first number in it, and how many
  pub window_base : ℕ
  pub window_width : ℕ
  -- the links that wait, in turn, each with its waiting transfers
  pub queues : List (ℕ × List (Outbound T F))
  -- the deliveries that left and aren't settled, by their numbers
  pub unsettled : map.FinMap nat_cmp Delivery
  -- how many transfers more are sure to find room, in one batch or in several
  pub room : ℕ

-- a delivery that leaves unsettled is kept under its number until it is settled (part 2, 2.6.12)
abbrev pub registered : Table → ℕ → OutputHandle → Part → Table
registered table number handle Untagged = table
registered table number handle Settled = table
registered table number handle (Unsettled tag) = map.insert table number (record { handle = handle; tag = tag })
registered table number handle Continuation = table

module _ {T F : Type 0} where
  -- the next number lies in the peer's window
  abbrev pub InWindow : State T F → Type 0
  InWindow s = ahead s.next_outgoing_id s.window_base < s.window_width

  -- how many transfers the peer's window still takes: those from the next number on that lie in it (part 2, 2.5.6)
  abbrev pub window_left : State T F → ℕ
  window_left s = s.window_width - ahead s.next_outgoing_id s.window_base

  -- something waits only while the next number lies outside the window
  abbrev pub IsHeld : State T F → Type 0
  IsHeld s = 0 < held_in s.queues → s.window_width ≤ ahead s.next_outgoing_id s.window_base

  -- a transfer as it leaves: with the next number, and where it begins a delivery, with that of the delivery
  abbrev pub sent_as : State T F → OutputHandle → Outbound T F → Sent T F
  sent_as s handle u =
      record {
        handle = handle;
        number = s.next_outgoing_id;
        delivery = (if is_first u.part then Some s.next_delivery_number else None);
        transfer = u.transfer;
        behind = u.behind;
      }

  -- the session after a transfer left
  abbrev pub after : State T F → OutputHandle → Outbound T F → Queues T F → State T F
  after s handle u queues =
      record s {
        next_outgoing_id = (s.next_outgoing_id + 1) % 2 ^ 32;
        next_delivery_number =
            (if is_first u.part then (s.next_delivery_number + 1) % 2 ^ 32 else s.next_delivery_number);
        queues = queues;
        unsettled = registered s.unsettled s.next_delivery_number handle u.part;
      }

  -- the window allows it, and the first link of the turn sends its first transfer
  pub record Sends (old : State T F) (sent : Sent T F) (new : State T F) : Type 0 where
    pub allowed : InWindow old
    pub taken : Outbound T F
    pub turn : TakesTurn old.queues (sent.handle).0 taken new.queues
    pub says : sent ≡ sent_as old sent.handle taken
    pub becomes : new ≡ after old sent.handle taken new.queues

  -- these leave, one after another
  abbrev pub Leaves : State T F → List (Sent T F) → State T F → Type 0
  Leaves old [] new = new ≡ old
  Leaves old (sent ∷ more) new = (mid : State T F) × Sends old sent mid × Leaves mid more new

  -- what was handed out goes on by transfers that leave, one after another
  pub record Leaving (old : State T F) (out : List (Sent T F)) (new : State T F) (out_new : List (Sent T F)) : Type
      0 where
    pub left : List (Sent T F)
    pub added : out_new ≡ out ++ left
    pub run : Leaves old left new

  abbrev pub with_window : State T F → ℕ → ℕ → State T F
  with_window s base width = record s { window_base = base; window_width = width }

  -- a session with these numbers and deliveries, in whose turn no link stands but one with these transfers
  abbrev pub with_alone : State T F → ℕ → ℕ → Table → ℕ → List (Outbound T F) → State T F
  with_alone s number delivery table handle units =
      record s {
        next_outgoing_id = number;
        next_delivery_number = delivery;
        unsettled = table;
        queues = rejoined handle units [];
      }

  -- a batch waits, and takes of the room that was made as much as it needs
  abbrev pub with_batch : State T F → ℕ → List (Outbound T F) → State T F
  with_batch s handle batch = record s { queues = joined handle batch s.queues; room = s.room - length batch }

  -- the window's base that a Flow tells; where it tells none, the peer has not seen the session's first transfer (part
  -- 2, 2.5.6)
  abbrev pub base_of : State T F → Option ℕ → ℕ
  base_of s None = s.initial_outgoing_id
  base_of s (Some number) = number
