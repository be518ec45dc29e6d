use Rattle.std.proofs.Common.{arith}
use Rattle.amqp_endpoint_link_hearing.proofs.Releases.{leave-next, leave-none}
use Rattle.amqp_endpoint_link_hearing.proofs.flowing.leave_with_each.Goals as goal

pub loop-i-preserved : goal.loop-i-preserved
loop-i-preserved c =
    record {
      end = c.loop-i.invariant.end;
      leave = λ s links others.
          c.loop-i.invariant.leave s links
          (leave-next c.args.frames.now.items c.loop-i.i c.index.result.now (omega arith) c.index.ensures
          c.loop-i.session c.leave_with.new.session s c.loop-i.links c.leave_with.new.links links
          c.leave_with.ensures others);
    }

pub returns : goal.returns
returns c =
    c.loop-i.invariant.leave c.loop-i.session c.loop-i.links
    (leave-none c.args.frames.now.items c.loop-i.i (omega arith) c.loop-i.session c.loop-i.links)
