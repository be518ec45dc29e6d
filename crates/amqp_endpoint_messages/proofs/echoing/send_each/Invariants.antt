use Rattle.std.proofs.Common.{◌≡◌, ◌+◌, ◌≤◌, ◌++◌, All, drop, false, length, true}
use Rattle.std.specs.Vec.{vec_capacity, vec_len}
use Rattle.std.specs.VecDeque.{deque_len, deque_capacity}
use Rattle.amqp_session_core.specs.State.{State}
use Rattle.amqp_endpoint_messages.specs.Dispositions.{SendsEach, frames_of}
use Rattle.amqp_endpoint_messages.specs.Echoing.{barred, echoes_of, going}
use Rattle.amqp_endpoint_messages.proofs.echoing.send_each.Given as goal

-- once those that are left are sent or barred all are, and there are room and copies for them
abbrev pub invariant-loop-run : goal.invariant-loop-run
invariant-loop-run g l =
    record {
      sent : (new : State g.row.R.Denot)
          → SendsEach g.R.LinkRelay.gives l.session (echoes_of l._state (going l.limit l._state (drop l.run-index l.runs)))
          new
          → SendsEach g.R.LinkRelay.gives l.fn.session (echoes_of l._state (going l.limit l._state l.runs)) new;
      fields : l.session.fields ≡ l.fn.session.fields;
      added : l.out.items
          ++ frames_of l.fn.session.fields (echoes_of l._state (going l.limit l._state (drop l.run-index l.runs)))
          ≡ l.fn.out.items ++ frames_of l.fn.session.fields (echoes_of l._state (going l.limit l._state l.runs));
      barred : l.bars.items ++ barred l.limit l._state (drop l.run-index l.runs)
          ≡ l.fn.bars.items ++ barred l.limit l._state l.runs;
      none : l.fit ≡ true → l.bars.items ≡ l.fn.bars.items;
      each : All (λ s. s ≡ l._state) l.copies.items;
      enough : length l.runs ≤ length l.copies.items + l.run-index;
      room : l.fit ≡ false → vec_len l.bars + length l.runs ≤ vec_capacity l.bars + l.run-index;
      spare : deque_len l.out + length l.runs ≤ deque_capacity l.out + l.run-index;
      few : deque_len l.out ≤ deque_len l.fn.out + l.run-index;
      capacity : deque_capacity l.out ≡ deque_capacity l.fn.out;
    }
