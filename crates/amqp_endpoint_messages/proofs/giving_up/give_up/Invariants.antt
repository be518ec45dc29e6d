use Rattle.std.proofs.Common.{◌≡◌, ◌+◌, ◌≤◌, ℕ, All, Bool, List, length}
use Rattle.std.specs.Prelude.{IsSome}
use Rattle.std.specs.VecDeque.{deque_capacity, deque_len}
use Rattle.amqp_session_performatives.specs.declared.session_frame.SessionFrame.{SessionFrame}
use Rattle.amqp_session_outgoing.specs.Queues.{frames_in, room_behind}
use Rattle.amqp_session_core.specs.State.{link_at}
use Rattle.amqp_endpoint_attached.specs.Linked.{LinksIn}
use Rattle.amqp_endpoint_messages.specs.GivingUp.{HandsEach, IsBare}
use Rattle.amqp_endpoint_messages.proofs.giving_up.give_up.Given as goal

-- once those that are left are taken all are, and there is room for them
abbrev pub invariant-loop-batch : goal.invariant-loop-batch
invariant-loop-batch l =
    record {
      hands : (stopped : Bool) (new : LinksIn) (out_new : List SessionFrame)
          → HandsEach l.handle l.batches.items l.session l.out.items stopped new out_new
          → HandsEach l.handle l.initial.batches.items l.initial.session l.initial.out.items stopped new out_new;
      there : IsSome (link_at l.session l.handle.0);
      bare : All IsBare l.batches.items;
      room : length l.batches.items ≤ l.session.outgoing.room;
      used : l.initial.session.outgoing.room + length l.batches.items
          ≤ l.session.outgoing.room + length l.initial.batches.items;
      spare : deque_len l.out + (frames_in l.session.outgoing.queues + l.session.outgoing.room)
          + deque_capacity l.initial.out
          ≤ deque_len l.initial.out + (frames_in l.initial.session.outgoing.queues + l.initial.session.outgoing.room)
          + deque_capacity l.out;
      place : (most : ℕ) → 1 ≤ most → room_behind l.handle.0 1 l.initial.session.outgoing.queues ≤ most
          → room_behind l.handle.0 1 l.session.outgoing.queues ≤ most;
      links : l.session.links ≡ l.initial.session.links;
      fields : l.session.fields ≡ l.initial.session.fields;
    }

abbrev pub decreases-loop-batch : goal.decreases-loop-batch
decreases-loop-batch l = length l.batches.items
