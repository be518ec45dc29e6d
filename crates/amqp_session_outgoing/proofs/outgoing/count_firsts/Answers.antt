use Rattle.std.proofs.Common.{arith, refl, ap, sym, subst, ◌<◌, length}
use Rattle.amqp_session_outgoing.specs.Frames.{first_count, HasTag}
use Rattle.amqp_session_outgoing.specs.declared.frames.Outbound.{Outbound}
use Rattle.amqp_session_outgoing.proofs.Numbering.{at_most_one, tagged, tags-more, firsts-more}
use Rattle.amqp_session_outgoing.proofs.outgoing.count_firsts.Goals as goal

pub loop-i-preserved : goal.loop-i-preserved
loop-i-preserved g c =
    let lt : c.loop-i.i < length c.args.batch.now.items = omega arith in
    let same = ap (λ (u : Outbound _ _). first_count u.part) c.index.ensures in
    record {
      end = c.loop-i.invariant.end;
      count = omega (arith, firsts-more c.args.batch.now.items c.loop-i.i c.index.result.now lt, same, c.in-Some.ensures.some.0, c.loop-i.invariant.count);
      below = omega (arith, c.loop-i.invariant.below, c.in-Some.ensures.some.0, at_most_one (c.index.result.now).part);
      tags = tags-more c.args.batch.now.items c.loop-i.i c.index.result.now lt c.loop-i.invariant.tags (subst (λ (u : Outbound _ _). HasTag u.part) c.index.ensures c.in-Some.ensures.some.1);
    }

pub returns-in_default-clause-err : goal.returns-in_default-clause-err
returns-in_default-clause-err g c =
    let lt : c.loop-i.i < length c.args.batch.now.items = omega arith in
    (refl, λ tags. c.in_default.ensures.none (subst (λ (u : Outbound _ _). HasTag u.part) (sym c.index.ensures) (tagged c.args.batch.now.items c.loop-i.i c.index.result.now lt tags)))
