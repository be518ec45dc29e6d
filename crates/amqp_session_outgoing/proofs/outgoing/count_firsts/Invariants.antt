use Rattle.std.proofs.Common.{◌≡◌, ◌≤◌, take}
use Rattle.std.specs.VecDeque.{deque_len}
use Rattle.amqp_session_outgoing.specs.Frames.{firsts_of, HaveTags}
use Rattle.amqp_session_outgoing.proofs.outgoing.count_firsts.Given as goal

abbrev pub invariant-loop-i : goal.invariant-loop-i
invariant-loop-i g l = record {
  end : l.i-end ≡ deque_len l.batch;
  count : l.count ≡ firsts_of (take l.i l.batch.items);
  below : l.count ≤ l.i;
  tags : HaveTags (take l.i l.batch.items);
}
