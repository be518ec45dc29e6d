use Rattle.std.proofs.Common.{◌≡◌, take}
use Rattle.std.specs.VecDeque.{deque_len}
use Rattle.amqp_session_outgoing.specs.Frames.{frames_count}
use Rattle.amqp_session_outgoing.specs.Fields.{AllShort}
use Rattle.amqp_session_outgoing.proofs.turns.count_frames.Given as goal

abbrev pub invariant-loop-i : goal.invariant-loop-i
invariant-loop-i g l = record {
  end : l.i-end ≡ deque_len l.batch;
  count : l.count ≡ frames_count (take l.i l.batch.items);
  short : AllShort (take l.i l.batch.items);
}
