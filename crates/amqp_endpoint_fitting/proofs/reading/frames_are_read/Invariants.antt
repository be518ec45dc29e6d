use Rattle.std.proofs.Common.{◌≡◌, ℕ, ◌<◌, ◌≤◌}
use Rattle.std.specs.Prelude.{slice_index_or}
use Rattle.std.specs.VecDeque.{deque_len}
use Rattle.amqp_session_performatives.specs.declared.session_frame.SessionFrame.{SessionFrame}
use Rattle.amqp_endpoint_fitting.specs.Read.{IsRead}
use Rattle.amqp_endpoint_fitting.proofs.reading.frames_are_read.Given as goal

abbrev pub invariant-loop-i : goal.invariant-loop-i
invariant-loop-i l = record {
  end : l.i-end ≡ deque_len l.frames;
  read : (k : ℕ) (d : SessionFrame) → l.from ≤ k → k < l.i → IsRead (slice_index_or l.frames.items k d);
}
