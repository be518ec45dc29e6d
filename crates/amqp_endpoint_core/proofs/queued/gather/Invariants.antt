use Rattle.std.proofs.Common.{◌≡◌, ◌+◌, ◌≤◌, ◌++◌, length}
use Rattle.std.specs.VecDeque.{deque_capacity, deque_len}
use Rattle.amqp_endpoint_core.specs.Queue.{frames_waiting}
use Rattle.amqp_endpoint_core.proofs.queued.gather.Given as goal

abbrev pub invariant-loop-frame : goal.invariant-loop-frame
invariant-loop-frame l = record {
  same : l.queue.items ++ frames_waiting l.out.items ≡ l.initial.queue.items ++ frames_waiting l.initial.out.items;
  room : deque_len l.queue + length l.out.items + 1 ≤ deque_capacity l.queue;
}

abbrev pub decreases-loop-frame : goal.decreases-loop-frame
decreases-loop-frame l = length l.out.items
