use Rattle.std.proofs.Common.{length}
use Rattle.amqp_session_frames.specs.Cutting.{Cuts}
use Rattle.amqp_session_frames.proofs.encoder.push_middles.Given as goal

abbrev pub invariant-loop-payload : goal.invariant-loop-payload
invariant-loop-payload l = Cuts l.head l.room l.fn.pieces.items l.pieces.items l.fn.payload l.payload

abbrev pub decreases-loop-payload : goal.decreases-loop-payload
decreases-loop-payload l = length l.payload
