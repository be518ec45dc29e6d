use Rattle.std.proofs.Common.{[], ◌∷◌, arith, ap, sym, ◌∙◌, refl, ◌≡◌, ◌≤◌, ◌+◌, ◌^◌, Some}
use Rattle.std.proofs.lemmas.Result.{on_ok_weaker}
use Rattle.serde_amqp_item.specs.Item.{scalar, ulong, list, items_of, item_count}
use Rattle.serde_amqp_item.specs.Canon.{alone}
use Rattle.serde_amqp_item.specs.Record.{trimmed}
use Rattle.serde_amqp_ser.specs.Puts.{State, state_of, place_of, serialized}
use Rattle.serde_amqp_ser.proofs.Grown.{keeps_then, keeps_once, keeps_more, keeps_inside}
use Rattle.serde_amqp_ser.proofs.Listed.{alone_stays, only_where, item_count-items_of}
use Rattle.serde_amqp_ser.proofs.Fronts.{described_written, state_is, value_stuck, list_long}
use Rattle.serde_amqp_ser.proofs.Roomy.{begun_roomy}
use Rattle.serde_amqp_ser.proofs.record.put_filled_record.Goals as goal

pub returns-in_err-serialize_u64-clause-kept : goal.returns-in_err-serialize_u64-clause-kept
returns-in_err-serialize_u64-clause-kept g c = rw (← c.s.view_is) (
    keeps_then _ _ _ (keeps_once _ _ _ c.in_ok-put.ensures.ok) c.in_err-serialize_u64.ensures.kept
    )

pub returns-in_err-count-clause-kept : goal.returns-in_err-count-clause-kept
returns-in_err-count-clause-kept g c = rw (← c.s.view_is) (
    let before = keeps_more _ _ _ _ (keeps_then _ _ _ (keeps_once _ _ _ c.in_ok-put.ensures.ok)
    (rw (← c.s-in-False.view_is) at c.in_ok-serialize_u64.ensures.kept)) c.in_ok-put-2.ensures.ok in
    keeps_then _ _ _ (keeps_then _ _ _ before (keeps_inside g.W.Sink.begins _ _ _ c.open-content.ensures.inside))
    c.in_err-count.ensures.kept
    )

pub returns-then-count-clause-kept : goal.returns-then-count-clause-kept
returns-then-count-clause-kept g c = rw (← c.s.view_is) (
    let before = keeps_more _ _ _ _ (keeps_then _ _ _ (keeps_once _ _ _ c.in_ok-put.ensures.ok)
    (rw (← c.s-in-False.view_is) at c.in_ok-serialize_u64.ensures.kept)) c.in_ok-put-2.ensures.ok in
    keeps_then _ _ _ (keeps_then _ _ _ before (keeps_inside g.W.Sink.begins _ _ _ c.open-content.ensures.inside))
    c.in_ok-count.ensures.kept
    )

pub returns-then-count-clause-refused : goal.returns-then-count-clause-refused
returns-then-count-clause-refused g c = rw (← c.s.view_is) (λ n.
    let s0 : State = record { written = g.W.Sink.written c.s.inside.writer; place = place_of c.s.inside.element } in
    let p0 : place_of c.s.inside.element ≡ alone = ap place_of c.in-False.is in
    let xs = items_of (trimmed (g.F.Fields.items c.args.fields.now)) in
    let many : 2 ^ 32 ≤ item_count xs + 1 = omega (
      arith,
      item_count-items_of
          (trimmed (g.F.Fields.items c.args.fields.now)),
      c.in_ok-count.ensures.count,
      c.if-count.true,
    ) in
    let s2 : State = record { written = g.W.Sink.written c.s-in-False.inside.writer; place = alone } in
    value_stuck s0 s2 (scalar (ulong c.args.code)) (list xs) p0 refl
    (list_long s2.written _ _ alone xs c.in_ok-count.ensures.ok many)
    )

pub returns-in-False-clause-ok : goal.returns-in-False-clause-ok
returns-in-False-clause-ok g c = rw (← c.s.view_is) (
    let s0 : State = record { written = g.W.Sink.written c.s.inside.writer; place = place_of c.s.inside.element } in
    let p0 : place_of c.s.inside.element ≡ alone = ap place_of c.in-False.is in
    let xs = items_of (trimmed (g.F.Fields.items c.args.fields.now)) in
    let s2 : State = record { written = g.W.Sink.written c.s-in-False.inside.writer; place = alone } in
    let count : item_count xs ≡ c.in_ok-count.count = omega (
      arith,
      item_count-items_of
          (trimmed (g.F.Fields.items c.args.fields.now)),
      c.in_ok-count.ensures.count,
      c.if-count.false,
    ) in
    let whole = begun_roomy g.W.Sink.begins s2.written _ _ _ _ _ xs (0xc0 ∷ 0 ∷ 0 ∷ []) refl c.here-start.ensures
    c.in_ok-put-2.ensures.ok c.open-content.ensures.inside c.open-content.ensures.start c.in_ok-count.ensures.ok in
    let s1 : State = record { written = g.W.Sink.written c.put.new.self; place = place_of c.s.inside.element } in
    let code = scalar (ulong c.args.code) in
    let s3 : State = record { written = g.W.Sink.written c.s-in-False.inside.writer; place = place_of c.s-in-False.inside.element } in
    let coded : serialized s1 code ≡ Some s3 = rw (← c.s-in-False.view_is) at c.in_ok-serialize_u64.ensures.ok in
    let stays = alone_stays code s1 s3 p0
    coded in
    let head : serialized s1 code ≡ Some s2 = coded
    ∙ ap (λ (t : State). Some t) (sym (state_is s3 s2.written
    refl stays)) in
    on_ok_weaker c.close_roomy_list.result
    (λ f. described_written s0 s1 s2
    (state_of g.W.Sink.written c.close_roomy_list.new.self) code (list xs) p0 c.in_ok-put.ensures.ok p0 head refl
    (f c.s-in-False.inside.writer xs whole count))
    c.close_roomy_list.ensures.ok
    )

pub returns-in-False-clause-kept : goal.returns-in-False-clause-kept
returns-in-False-clause-kept g c = rw (← c.s.view_is) (
    let xs = items_of (trimmed (g.F.Fields.items c.args.fields.now)) in
    let s2 : State = record { written = g.W.Sink.written c.s-in-False.inside.writer; place = alone } in
    let whole = begun_roomy g.W.Sink.begins s2.written _ _ _ _ _ xs (0xc0 ∷ 0 ∷ 0 ∷ []) refl c.here-start.ensures
    c.in_ok-put-2.ensures.ok c.open-content.ensures.inside c.open-content.ensures.start c.in_ok-count.ensures.ok in
    let before = keeps_then _ _ _ (keeps_once _ _ _ c.in_ok-put.ensures.ok) (rw (← c.s-in-False.view_is) at c.in_ok-serialize_u64.ensures.kept) in
    keeps_then _ _ _ before (c.close_roomy_list.ensures.kept c.s-in-False.inside.writer xs whole)
    )

pub returns-in-False-clause-refused : goal.returns-in-False-clause-refused
returns-in-False-clause-refused g c = rw (← c.s.view_is) (
    let s0 : State = record { written = g.W.Sink.written c.s.inside.writer; place = place_of c.s.inside.element } in
    let p0 : place_of c.s.inside.element ≡ alone = ap place_of c.in-False.is in
    let xs = items_of (trimmed (g.F.Fields.items c.args.fields.now)) in
    let s2 : State = record { written = g.W.Sink.written c.s-in-False.inside.writer; place = alone } in
    let count : item_count xs ≡ c.in_ok-count.count = omega (
      arith,
      item_count-items_of
          (trimmed (g.F.Fields.items c.args.fields.now)),
      c.in_ok-count.ensures.count,
      c.if-count.false,
    ) in
    let whole = begun_roomy g.W.Sink.begins s2.written _ _ _ _ _ xs (0xc0 ∷ 0 ∷ 0 ∷ []) refl c.here-start.ensures
    c.in_ok-put-2.ensures.ok c.open-content.ensures.inside c.open-content.ensures.start c.in_ok-count.ensures.ok in
    only_where {X = Unit {0}} c.close_roomy_list.result _ _
    (λ e. value_stuck s0 s2 (scalar (ulong c.args.code)) (list xs) p0 refl e)
    (c.close_roomy_list.ensures.refused c.s-in-False.inside.writer xs whole count)
    )
