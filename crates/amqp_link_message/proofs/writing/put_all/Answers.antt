use Rattle.std.proofs.Common.{Err, map, take, drop, ◌+◌}
use Rattle.std.proofs.lemmas.Result.{err_from_is_err_and}
use Rattle.serde_amqp_ser.specs.Puts.{state_of}
use Rattle.serde_amqp_ser.proofs.Listed.{alone_stays, only_where, map_take_more, map_split}
use Rattle.std.proofs.Common.{refl}
use Rattle.amqp_link_message.proofs.Listing.{listed_then, listed_middle_stuck}
use Rattle.amqp_link_message.proofs.writing.put_all.Goals as goal

pub returns-in_err-serialize-clause-refused : goal.returns-in_err-serialize-clause-refused
returns-in_err-serialize-clause-refused g c =
    let p = err_from_is_err_and c.from_residual.result c.from_residual.ensures.1 in
    let split = map_split g.S.Serialize.item c.args.sections.now c.loop-section.section-index c.section-item.result c.loop-section-test.true c.section-item.is in
    let stuck = listed_middle_stuck (g.W.Sink.written c.args.s.now.writer) (g.W.Sink.written c.loop-section.s.writer) (map g.S.Serialize.item (take c.loop-section.section-index c.args.sections.now)) (map g.S.Serialize.item (drop (c.loop-section.section-index + 1) c.args.sections.now)) (g.S.Serialize.item c.section-item.result) (state_of g.W.Sink.written c.loop-section.s) c.loop-section.invariant.outside in
    rw (p.1, p.2, split) (only_where {X = Unit {0}} (Err c.in_err-serialize.field-0.0) _ _ stuck c.in_err-serialize.ensures.refused)

pub loop-section-preserved : goal.loop-section-preserved
loop-section-preserved g c =
    let more = map_take_more g.S.Serialize.item c.args.sections.now c.loop-section.section-index c.section-item.result c.loop-section-test.true c.section-item.is in
    let there = listed_then (g.W.Sink.written c.args.s.now.writer) (g.W.Sink.written c.loop-section.s.writer) (map g.S.Serialize.item (take c.loop-section.section-index c.args.sections.now)) (g.S.Serialize.item c.section-item.result)
    (state_of g.W.Sink.written c.loop-section.s) (state_of g.W.Sink.written c.serialize.new.s) c.loop-section.invariant.behind refl c.loop-section.invariant.outside c.in_ok-serialize.ensures.ok in
    record {
      outside = alone_stays (g.S.Serialize.item c.section-item.result) (state_of g.W.Sink.written c.loop-section.s) (state_of g.W.Sink.written c.serialize.new.s) c.loop-section.invariant.outside c.in_ok-serialize.ensures.ok;
      behind = rw more there;
    }
