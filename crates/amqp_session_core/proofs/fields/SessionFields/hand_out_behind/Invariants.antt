use Rattle.std.proofs.Common.{◌≡◌, ◌+◌, ◌≤◌, ◌++◌, ◌||◌, length, reverse}
use Rattle.std.specs.VecDeque.{deque_len, deque_capacity}
use Rattle.amqp_session_core.specs.Frames.{frames_behind, has_flow}
use Rattle.amqp_session_core.proofs.fields.SessionFields.hand_out_behind.Given as goal

abbrev pub invariant-loop-frame : goal.invariant-loop-frame
invariant-loop-frame l = record {
  frames : l.out.items ++ frames_behind l.fn.self l.fn.next_outgoing_id (reverse l.frames.items) ≡ l.fn.out.items ++ frames_behind l.fn.self l.fn.next_outgoing_id l.fn.behind;
  room : deque_len l.out + length l.frames.items ≤ deque_capacity l.out;
  capacity : deque_capacity l.out ≡ deque_capacity l.fn.out;
  flows : (l.flows || has_flow (frames_behind l.fn.self l.fn.next_outgoing_id (reverse l.frames.items))) ≡ has_flow (frames_behind l.fn.self l.fn.next_outgoing_id l.fn.behind);
  same : l.self ≡ l.fn.self;
  number : l.next_outgoing_id ≡ l.fn.next_outgoing_id;
}

abbrev pub decreases-loop-frame : goal.decreases-loop-frame
decreases-loop-frame l = length l.frames.items
