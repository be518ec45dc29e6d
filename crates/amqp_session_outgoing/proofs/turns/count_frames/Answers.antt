use Rattle.std.proofs.Common.{◌<◌, length, arith, ap}
use Rattle.amqp_session_outgoing.specs.declared.frames.Outbound.{Outbound}
use Rattle.amqp_session_outgoing.proofs.Counting.{count-fits, frames-more, short-more}
use Rattle.amqp_session_outgoing.proofs.turns.count_frames.Goals as goal

pub overflow_add-count-in-loop-i : goal.overflow_add-count-in-loop-i
overflow_add-count-in-loop-i g c =
    omega (arith, count-fits c.args.batch.now.items c.loop-i.i c.loop-i.count c.len.result c.loop-i.invariant.short c.loop-i.invariant.count (omega arith) (omega arith) (omega arith))

pub loop-i-preserved : goal.loop-i-preserved
loop-i-preserved g c =
    let lt : c.loop-i.i < length c.args.batch.now.items = omega arith in
    let same = ap (λ (u : Outbound _ _). length u.behind) c.index.ensures in
    record {
      end = c.loop-i.invariant.end;
      count = omega (arith, frames-more c.args.batch.now.items c.loop-i.i c.index.result.now lt, same, c.len.ensures, c.loop-i.invariant.count);
      short = short-more c.args.batch.now.items c.loop-i.i c.index.result.now lt c.loop-i.invariant.short (omega (arith, same, c.len.ensures));
    }
