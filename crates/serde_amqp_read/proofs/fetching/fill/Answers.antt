use Rattle.std.proofs.Common.{rules, length, ◌-◌}
use Rattle.serde_amqp_read.proofs.Known.{filled_more}
use Rattle.serde_amqp_read.proofs.fetching.fill.Goals as goal

pub loop-at-preserved : goal.loop-at-preserved
loop-at-preserved g c =
    let old = g.S.InMemory.bytes c.loop-at.source in
    let new = g.S.InMemory.bytes c.give.new.self in
    record {
      long = search rules;
      within = search rules;
      split = filled_more _ old new c.loop-at.at c.in-Ok.count (length c.loop-at.buffer - c.loop-at.at) c.loop-at.buffer c.give.new.buffer c.loop-at.invariant.split
          c.in-Ok.ensures.given c.loop-at.invariant.within c.in-Ok.ensures.bound.0;
      lasting = search rules;
    }
