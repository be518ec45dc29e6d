use Rattle.std.proofs.Common.{◌≡◌, ◌+◌, ◌≤◌, ◌++◌, length}
use Rattle.std.specs.VecDeque.{deque_len, deque_capacity}
use Rattle.amqp_session_core.specs.State.{State}
use Rattle.amqp_endpoint_messages.specs.Dispositions.{SendsEach, frames_of}
use Rattle.amqp_endpoint_messages.proofs.dispositions.send_each.Given as goal

-- once those that are left are sent all are, and there is room for them
abbrev pub invariant-loop-disposition : goal.invariant-loop-disposition
invariant-loop-disposition g l =
    record {
      sent : (new : State g.row.R.Denot) → SendsEach g.R.LinkRelay.gives l.session l.rest.rest.items new
          → SendsEach g.R.LinkRelay.gives l.initial.session l.initial.rest.rest.items new;
      fields : l.session.fields ≡ l.initial.session.fields;
      added : l.out.items ++ frames_of l.initial.session.fields l.rest.rest.items
          ≡ l.initial.out.items ++ frames_of l.initial.session.fields l.initial.rest.rest.items;
      spare : deque_len l.out + length l.rest.rest.items ≤ deque_capacity l.out;
      capacity : deque_capacity l.out ≡ deque_capacity l.initial.out;
    }

abbrev pub decreases-loop-disposition : goal.decreases-loop-disposition
decreases-loop-disposition g l = length l.rest.rest.items
