use Rattle.std.proofs.Common.{◌≡◌, ◌≤◌, take, vec_len, vec_capacity}
use Rattle.std.specs.VecDeque.{deque_len}
use Rattle.amqp_session_outgoing.specs.Fields.{waiting_at}
use Rattle.amqp_session_outgoing.specs.Queues.{turn_of}
use Rattle.amqp_session_outgoing.proofs.turns.counts.Given as goal

abbrev pub invariant-loop-i : goal.invariant-loop-i
invariant-loop-i g l = record {
  end : l.i-end ≡ deque_len l.turn;
  items : l.counts.items ≡ turn_of (waiting_at l.queues (take l.i l.turn.items));
  len : vec_len l.counts ≡ l.i;
  room : l.i-end ≤ vec_capacity l.counts;
}
