use Rattle.std.proofs.Common.{◌+◌, ◌≤◌, ℕ, All, Bool, List, length}
use Rattle.std.specs.VecDeque.{deque_capacity, deque_len}
use Rattle.amqp_session_performatives.specs.declared.session_frame.SessionFrame.{SessionFrame}
use Rattle.amqp_session_outgoing.specs.Frames.{HaveTags}
use Rattle.amqp_session_outgoing.specs.Queues.{frames_in, room_behind}
use Rattle.amqp_endpoint_attached.specs.Linked.{LinksIn}
use Rattle.amqp_endpoint_messages.specs.SendingOn.{AreSentOn, transfers_in}
use Rattle.amqp_endpoint_messages.proofs.SentOn.{CreditIn}
use Rattle.amqp_endpoint_messages.proofs.sending_on.send_each.Given as goal

-- once those that are left are sent on all are, and there are credit and room for them
abbrev pub invariant-loop-batch : goal.invariant-loop-batch
invariant-loop-batch l =
    record {
      sent : (stopped : Bool) (new : LinksIn) (out_new : List SessionFrame)
          → AreSentOn l.handle l.batches.items l.session l.out.items stopped new out_new
          → AreSentOn l.handle l.initial.batches.items l.initial.session l.initial.out.items stopped new out_new;
      credit : CreditIn (length l.batches.items) l.handle l.session;
      tagged : All HaveTags l.batches.items;
      room : transfers_in l.batches.items ≤ l.session.outgoing.room;
      spare : deque_len l.out + (frames_in l.session.outgoing.queues + l.session.outgoing.room) + 1
          ≤ deque_capacity l.out;
      place : (most : ℕ) → 1 ≤ most → room_behind l.handle.0 1 l.initial.session.outgoing.queues ≤ most
          → room_behind l.handle.0 1 l.session.outgoing.queues ≤ most;
    }

abbrev pub decreases-loop-batch : goal.decreases-loop-batch
decreases-loop-batch l = length l.batches.items
