use Rattle.std.proofs.Common.{◌+◌, ◌≤◌, ℕ, All, List, length}
use Rattle.std.specs.Vec.{vec_capacity, vec_len}
use Rattle.std.specs.VecDeque.{deque_capacity, deque_len}
use Rattle.amqp_session_performatives.specs.declared.session_frame.SessionFrame.{SessionFrame}
use Rattle.amqp_endpoint_conversation.specs.Going.{Goes, Rests}
use Rattle.amqp_endpoint_model.specs.declared.event.Event.{Event}
use Rattle.amqp_endpoint_linking.specs.Linking.{Talk}
use Rattle.amqp_endpoint_link_hearing.specs.Unechoed.{CanClose, RefusesBehind, handles_in, told_most}
use Rattle.amqp_endpoint_link_hearing.proofs.unechoed.refuse_each.Given as goal

-- once those that are left are refused, or not, all are, and there is room for them
abbrev pub invariant-loop-closing : goal.invariant-loop-closing
invariant-loop-closing l =
    record {
      ends : (new : Talk) (out : List SessionFrame) (told : List Event)
          → RefusesBehind l.session l.barred l.reached (handles_in l.rest.rest.items) l.talk l.out.items
          l.events.items new out told
          → RefusesBehind l.session l.barred l.reached (handles_in l.initial.rest.rest.items) l.initial.talk
          l.initial.out.items l.initial.events.items new out told;
      can : All (CanClose l.talk l.session) l.rest.rest.items;
      spare : deque_len l.out + length l.rest.rest.items ≤ deque_capacity l.out;
      room : vec_len l.events + told_most l.rest.rest.items ≤ vec_capacity l.events;
      goes : (limit : ℕ) → 512 ≤ limit → Goes limit l.initial.talk l.talk l.initial.out.items l.out.items;
      rests : Rests l.initial.talk l.talk l.initial.out.items l.out.items;
    }

abbrev pub decreases-loop-closing : goal.decreases-loop-closing
decreases-loop-closing l = length l.rest.rest.items
