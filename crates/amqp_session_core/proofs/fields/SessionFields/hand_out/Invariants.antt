use Rattle.std.proofs.Common.{◌≡◌, ◌+◌, ◌≤◌, ◌++◌, ◌||◌, length, reverse, vec_capacity}
use Rattle.std.specs.VecDeque.{deque_len, deque_capacity}
use Rattle.amqp_session_outgoing.specs.Frames.{sent_count}
use Rattle.amqp_session_core.specs.Frames.{frames_left, has_flow}
use Rattle.amqp_session_core.proofs.fields.SessionFields.hand_out.Given as goal

abbrev pub invariant-loop-one : goal.invariant-loop-one
invariant-loop-one l = record {
  frames : l.out.items ++ frames_left l.fn.self (reverse l.sent.items) ≡ l.fn.out.items ++ frames_left l.fn.self l.fn.sent.items;
  room : deque_len l.out + sent_count (reverse l.sent.items) ≤ deque_capacity l.out;
  capacity : vec_capacity l.sent ≡ vec_capacity l.fn.sent;
  count : deque_len l.out + sent_count (reverse l.sent.items) ≡ deque_len l.fn.out + sent_count l.fn.sent.items;
  out_capacity : deque_capacity l.out ≡ deque_capacity l.fn.out;
  flows : (l.flows || has_flow (frames_left l.fn.self (reverse l.sent.items))) ≡ has_flow (frames_left l.fn.self l.fn.sent.items);
  same : l.self ≡ l.fn.self;
}

abbrev pub decreases-loop-one : goal.decreases-loop-one
decreases-loop-one l = length l.sent.items
