use Rattle.std.proofs.Common.{arith, ◌∙◌, sym, refl, subst, ◌≡◌, ◌<◌, ◌+◌, Some, [], ◌∷◌, Err, map, take, drop, length}
use Rattle.std.proofs.lemmas.List.{length-map, take_all, nil_from_length}
use Rattle.std.proofs.lemmas.Bool.Decides.{nat_tests}
use Rattle.std.proofs.lemmas.Result.{on_ok_weaker, err_from_is_err_and}
use Rattle.serde_amqp_item.specs.Item.{items_of, no_items, item_count}
use Rattle.serde_amqp_ser.specs.Written.{inside}
use Rattle.serde_amqp_ser.specs.Puts.{State, state_of, place_of}
use Rattle.serde_amqp_ser.proofs.Grown.{keeps_then}
use Rattle.serde_amqp_ser.proofs.Listed.{only_where, item_count-items_of, map_take_more, map_split}
use Rattle.serde_amqp_ser.proofs.Arrayed.{arrayed, arrayed_more, arrayed_stuck, arrayed_text, arrayed_keeps, bare}
use Rattle.serde_amqp_ser.proofs.serializer.Serializer.put_array.Goals as goal

pub returns-in_err-serialize-clause-kept : goal.returns-in_err-serialize-clause-kept
returns-in_err-serialize-clause-kept g c =
    keeps_then _ _ _ (arrayed_keeps g.W.Sink.begins _ (map g.T.Serialize.item (take c.loop-element.element-index c.args.elements.now)) _ c.loop-element.invariant) c.in_err-serialize.ensures.kept

pub returns-in_err-serialize-clause-refused : goal.returns-in_err-serialize-clause-refused
returns-in_err-serialize-clause-refused g c =
    let p = err_from_is_err_and c.from_residual-in_err-serialize.result c.from_residual-in_err-serialize.ensures.1 in
    let split = map_split g.T.Serialize.item c.args.elements.now c.loop-element.element-index c.element-item.result c.loop-element-test.true c.element-item.is in
    let stuck = arrayed_stuck (inside g.W.Sink.begins (g.W.Sink.written c.args.self.now.writer)) (map g.T.Serialize.item (take c.loop-element.element-index c.args.elements.now)) (map g.T.Serialize.item (drop (c.loop-element.element-index + 1) c.args.elements.now)) (g.T.Serialize.item c.element-item.result) (state_of g.W.Sink.written c.loop-element.self) (state_of g.W.Sink.written c.args.self.now) c.loop-element.invariant in
    rw (p.1, p.2, split) (only_where {X = Unit {0}} (Err c.in_err-serialize.field-0.0) _ _ stuck c.in_err-serialize.ensures.refused)

pub loop-element-preserved : goal.loop-element-preserved
loop-element-preserved g c =
    let more = map_take_more g.T.Serialize.item c.args.elements.now c.loop-element.element-index c.element-item.result c.loop-element-test.true c.element-item.is in
    rw more (arrayed_more (inside g.W.Sink.begins (g.W.Sink.written c.args.self.now.writer)) (map g.T.Serialize.item (take c.loop-element.element-index c.args.elements.now)) (g.T.Serialize.item c.element-item.result) (state_of g.W.Sink.written c.loop-element.self) (state_of g.W.Sink.written c.serialize.new.s) c.loop-element.invariant c.in_ok-serialize.ensures.ok)

pub returns-then-is_empty-clause-ok : goal.returns-then-is_empty-clause-ok
returns-then-is_empty-clause-ok g c = rw (← c.self.view_is) (
    let z : length c.args.elements.now ≡ 0 = grind (arith, nat_tests, c.is_empty.ensures, c.if-is_empty.true) in
    let nil : c.args.elements.now ≡ [] = nil_from_length c.args.elements.now z in
    let behind = bare g.W.Sink.begins (g.W.Sink.written c.self.inside.writer) _ _ c.open-start.ensures.inside c.in_ok-put.ensures.ok in
    rw nil (on_ok_weaker c.close_array.result (λ f. f (g.W.Sink.written c.self.inside.writer) no_items (0x40 ∷ []) refl behind (sym c.open-start.ensures.start) refl) c.close_array.ensures.ok)
    )

pub returns-then-is_empty-clause-refused : goal.returns-then-is_empty-clause-refused
returns-then-is_empty-clause-refused g c = rw (← c.self.view_is) (
    let z : length c.args.elements.now ≡ 0 = grind (arith, nat_tests, c.is_empty.ensures, c.if-is_empty.true) in
    let nil : c.args.elements.now ≡ [] = nil_from_length c.args.elements.now z in
    let behind = bare g.W.Sink.begins (g.W.Sink.written c.self.inside.writer) _ _ c.open-start.ensures.inside c.in_ok-put.ensures.ok in
    rw nil (c.close_array.ensures.refused (g.W.Sink.written c.self.inside.writer) no_items (0x40 ∷ []) refl behind (sym c.open-start.ensures.start) refl)
    )

pub returns-clause-ok : goal.returns-clause-ok
returns-clause-ok g c = rw (← c.self.view_is) (
    let all : take c.loop-element.element-index c.args.elements.now ≡ c.args.elements.now = take_all c.loop-element.element-index c.args.elements.now c.loop-element-test.false in
    let last : State = record { written = g.W.Sink.written c.self-2.inside.writer; place = place_of c.self-2.inside.element } in
    let whole = subst (λ xs. arrayed (inside g.W.Sink.begins (g.W.Sink.written c.self.inside.writer)) (map g.T.Serialize.item xs) ≡ Some last) all (rw (← c.self.view_is, ← c.self-2.view_is) at c.loop-element.invariant) in
    let len = length-map c.args.elements.now g.T.Serialize.item in
    let some : 0 < length (map g.T.Serialize.item c.args.elements.now) = grind (arith, nat_tests, len, c.is_empty.ensures, c.if-is_empty.false) in
    let t = arrayed_text _ _ _ whole some in
    let count : item_count (items_of (map g.T.Serialize.item c.args.elements.now)) ≡ length c.args.elements.now = item_count-items_of (map g.T.Serialize.item c.args.elements.now) ∙ len in
    on_ok_weaker c.close_array-2.result
    (λ f. f (g.W.Sink.written c.self.inside.writer) (items_of (map g.T.Serialize.item c.args.elements.now)) t.0 t.1 t.2 (sym c.open-start.ensures.start) count)
    c.close_array-2.ensures.ok
    )

pub returns-clause-kept : goal.returns-clause-kept
returns-clause-kept g c = rw (← c.self.view_is) (
    let all : take c.loop-element.element-index c.args.elements.now ≡ c.args.elements.now = take_all c.loop-element.element-index c.args.elements.now c.loop-element-test.false in
    let last : State = record { written = g.W.Sink.written c.self-2.inside.writer; place = place_of c.self-2.inside.element } in
    let whole = subst (λ xs. arrayed (inside g.W.Sink.begins (g.W.Sink.written c.self.inside.writer)) (map g.T.Serialize.item xs) ≡ Some last) all (rw (← c.self.view_is, ← c.self-2.view_is) at c.loop-element.invariant) in
    let len = length-map c.args.elements.now g.T.Serialize.item in
    let some : 0 < length (map g.T.Serialize.item c.args.elements.now) = grind (arith, nat_tests, len, c.is_empty.ensures, c.if-is_empty.false) in
    let t = arrayed_text _ _ _ whole some in
    c.close_array-2.ensures.kept (g.W.Sink.written c.self.inside.writer) t.0 t.2 (sym c.open-start.ensures.start)
    )

pub returns-clause-refused : goal.returns-clause-refused
returns-clause-refused g c = rw (← c.self.view_is) (
    let all : take c.loop-element.element-index c.args.elements.now ≡ c.args.elements.now = take_all c.loop-element.element-index c.args.elements.now c.loop-element-test.false in
    let last : State = record { written = g.W.Sink.written c.self-2.inside.writer; place = place_of c.self-2.inside.element } in
    let whole = subst (λ xs. arrayed (inside g.W.Sink.begins (g.W.Sink.written c.self.inside.writer)) (map g.T.Serialize.item xs) ≡ Some last) all (rw (← c.self.view_is, ← c.self-2.view_is) at c.loop-element.invariant) in
    let len = length-map c.args.elements.now g.T.Serialize.item in
    let some : 0 < length (map g.T.Serialize.item c.args.elements.now) = grind (arith, nat_tests, len, c.is_empty.ensures, c.if-is_empty.false) in
    let t = arrayed_text _ _ _ whole some in
    let count : item_count (items_of (map g.T.Serialize.item c.args.elements.now)) ≡ length c.args.elements.now = item_count-items_of (map g.T.Serialize.item c.args.elements.now) ∙ len in
    c.close_array-2.ensures.refused (g.W.Sink.written c.self.inside.writer) (items_of (map g.T.Serialize.item c.args.elements.now)) t.0 t.1 t.2 (sym c.open-start.ensures.start) count
    )
