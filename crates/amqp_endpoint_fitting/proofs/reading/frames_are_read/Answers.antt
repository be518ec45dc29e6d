use Rattle.std.proofs.Common.{arith}
use Rattle.amqp_endpoint_fitting.proofs.FramesRead.{read-behind, read-more}
use Rattle.amqp_endpoint_fitting.proofs.reading.frames_are_read.Goals as goal

pub loop-i-init : goal.loop-i-init
loop-i-init c = record { end = omega arith; read = λ k d low high. absurd (omega arith) }

pub loop-i-preserved : goal.loop-i-preserved
loop-i-preserved c =
    record {
      end = c.loop-i.invariant.end;
      read =
          read-more c.args.frames.now.items c.args.from c.loop-i.i c.index.result.now (omega arith) c.index.ensures
          c.a_frame_is_read.ensures c.loop-i.invariant.read;
    }

pub returns : goal.returns
returns c =
    read-behind c.args.frames.now.items c.args.from c.loop-i.i (omega arith) c.loop-i.invariant.read
