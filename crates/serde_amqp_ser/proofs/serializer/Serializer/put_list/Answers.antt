use Rattle.std.proofs.Common.{◌∙◌, sym, refl, subst, ◌≡◌, ◌+◌, Some, Err, map, take, drop, length}
use Rattle.std.proofs.lemmas.List.{length-map, take_all}
use Rattle.std.proofs.lemmas.Result.{on_ok_weaker, err_from_is_err_and}
use Rattle.serde_amqp_item.specs.Item.{items_of, item_count}
use Rattle.serde_amqp_ser.specs.Written.{inside}
use Rattle.serde_amqp_ser.specs.Puts.{listed, state_of}
use Rattle.serde_amqp_ser.proofs.Grown.{keeps_then}
use Rattle.serde_amqp_ser.proofs.Listed.{alone_stays, only_where, listed_keeps, listed_more, listed_stuck, item_count-items_of, map_take_more, map_split}
use Rattle.serde_amqp_ser.proofs.serializer.Serializer.put_list.Goals as goal

pub returns-in_err-serialize-clause-kept : goal.returns-in_err-serialize-clause-kept
returns-in_err-serialize-clause-kept g c =
    keeps_then _ _ _ (listed_keeps g.W.Sink.begins _ _ (items_of (map g.T.Serialize.item (take c.loop-item.item-index c.args.items.now))) c.loop-item.invariant.behind) c.in_err-serialize.ensures.kept

pub returns-in_err-serialize-clause-refused : goal.returns-in_err-serialize-clause-refused
returns-in_err-serialize-clause-refused g c =
    let p = err_from_is_err_and c.from_residual.result c.from_residual.ensures.1 in
    let split = map_split g.T.Serialize.item c.args.items.now c.loop-item.item-index c.item-item.result c.loop-item-test.true c.item-item.is in
    let stuck = listed_stuck (map g.T.Serialize.item (take c.loop-item.item-index c.args.items.now)) (map g.T.Serialize.item (drop (c.loop-item.item-index + 1) c.args.items.now)) (g.T.Serialize.item c.item-item.result) (state_of g.W.Sink.written c.loop-item.self) (state_of g.W.Sink.written c.args.self.now) c.loop-item.invariant.outside in
    rw (p.1, p.2, split) (only_where {X = Unit {0}} (Err c.in_err-serialize.field-0.0) _ _ stuck c.in_err-serialize.ensures.refused)

pub loop-item-preserved : goal.loop-item-preserved
loop-item-preserved g c =
    let more = map_take_more g.T.Serialize.item c.args.items.now c.loop-item.item-index c.item-item.result c.loop-item-test.true c.item-item.is in
    let there = listed_more (inside g.W.Sink.begins (g.W.Sink.written c.args.self.now.writer)) (g.W.Sink.written c.loop-item.self.writer) (map g.T.Serialize.item (take c.loop-item.item-index c.args.items.now)) (g.T.Serialize.item c.item-item.result)
    (state_of g.W.Sink.written c.loop-item.self) (state_of g.W.Sink.written c.serialize.new.s) c.loop-item.invariant.behind refl c.loop-item.invariant.outside c.in_ok-serialize.ensures.ok in
    record {
      outside = alone_stays (g.T.Serialize.item c.item-item.result) (state_of g.W.Sink.written c.loop-item.self) (state_of g.W.Sink.written c.serialize.new.s) c.loop-item.invariant.outside c.in_ok-serialize.ensures.ok;
      behind = rw more there;
    }

pub returns-clause-ok : goal.returns-clause-ok
returns-clause-ok g c = rw (← c.self.view_is) (
    let all : take c.loop-item.item-index c.args.items.now ≡ c.args.items.now = take_all c.loop-item.item-index c.args.items.now c.loop-item-test.false in
    let whole = subst (λ xs. listed (inside g.W.Sink.begins (g.W.Sink.written c.self.inside.writer)) (items_of (map g.T.Serialize.item xs)) ≡ Some (g.W.Sink.written c.self-2.inside.writer)) all (rw (← c.self.view_is, ← c.self-2.view_is) at c.loop-item.invariant.behind) in
    let count : item_count (items_of (map g.T.Serialize.item c.args.items.now)) ≡ length c.args.items.now = item_count-items_of (map g.T.Serialize.item c.args.items.now) ∙ length-map c.args.items.now g.T.Serialize.item in
    on_ok_weaker c.close_list.result
    (λ f. f (g.W.Sink.written c.self.inside.writer) (items_of (map g.T.Serialize.item c.args.items.now)) whole (sym c.open-start.ensures.start) count)
    c.close_list.ensures.ok
    )

pub returns-clause-kept : goal.returns-clause-kept
returns-clause-kept g c = rw (← c.self.view_is) (
    c.close_list.ensures.kept (g.W.Sink.written c.self.inside.writer) (items_of (map g.T.Serialize.item (take c.loop-item.item-index c.args.items.now))) (rw (← c.self.view_is, ← c.self-2.view_is) at c.loop-item.invariant.behind) (sym c.open-start.ensures.start)
    )

pub returns-clause-refused : goal.returns-clause-refused
returns-clause-refused g c = rw (← c.self.view_is) (
    let all : take c.loop-item.item-index c.args.items.now ≡ c.args.items.now = take_all c.loop-item.item-index c.args.items.now c.loop-item-test.false in
    let whole = subst (λ xs. listed (inside g.W.Sink.begins (g.W.Sink.written c.self.inside.writer)) (items_of (map g.T.Serialize.item xs)) ≡ Some (g.W.Sink.written c.self-2.inside.writer)) all (rw (← c.self.view_is, ← c.self-2.view_is) at c.loop-item.invariant.behind) in
    let count : item_count (items_of (map g.T.Serialize.item c.args.items.now)) ≡ length c.args.items.now = item_count-items_of (map g.T.Serialize.item c.args.items.now) ∙ length-map c.args.items.now g.T.Serialize.item in
    c.close_list.ensures.refused (g.W.Sink.written c.self.inside.writer) (items_of (map g.T.Serialize.item c.args.items.now)) whole (sym c.open-start.ensures.start) count
    )
