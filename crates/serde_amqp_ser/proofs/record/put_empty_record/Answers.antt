use Rattle.std.proofs.Common.{ap, sym, ◌∙◌, refl, ◌≡◌, Some}
use Rattle.serde_amqp_item.specs.Item.{scalar, ulong}
use Rattle.serde_amqp_item.specs.Canon.{alone}
use Rattle.serde_amqp_ser.specs.Puts.{State, state_of, place_of, serialized}
use Rattle.serde_amqp_ser.proofs.Grown.{keeps_then, keeps_once, keeps_more}
use Rattle.serde_amqp_ser.proofs.Listed.{alone_stays}
use Rattle.serde_amqp_ser.proofs.Fronts.{state_is}
use Rattle.serde_amqp_ser.proofs.Roomy.{at, empty_written}
use Rattle.serde_amqp_ser.proofs.record.put_empty_record.Goals as goal

pub returns-in_err-serialize_u64-clause-kept : goal.returns-in_err-serialize_u64-clause-kept
returns-in_err-serialize_u64-clause-kept g c =
    rw (← c.s.view_is) (keeps_then _ _ _ (keeps_once _ _ _ c.in_ok-put.ensures.ok) c.in_err-serialize_u64.ensures.kept)

pub returns-in-False-clause-ok : goal.returns-in-False-clause-ok
returns-in-False-clause-ok g c = rw (← c.s.view_is) (
    let w0 = g.W.Sink.written c.s.inside.writer in
    let w2 = g.W.Sink.written c.s-in-False.inside.writer in
    let p0 : place_of c.s.inside.element ≡ alone = ap place_of c.in-False.is in
    let s0 : State = record { written = w0; place = place_of c.s.inside.element } in
    let s1 : State = record { written = g.W.Sink.written c.put.new.self; place = place_of c.s.inside.element } in
    let s2 : State = record { written = w2; place = place_of c.s-in-False.inside.element } in
    let code = scalar (ulong c.args.code) in
    let coded : serialized s1 code ≡ Some s2 = rw (← c.s-in-False.view_is) at c.in_ok-serialize_u64.ensures.ok in
    let stays = alone_stays code s1 s2 p0 coded in
    let head : serialized s1 code ≡ Some (at w2) = coded
    ∙ ap (λ (t : State). Some t) (sym (state_is s2 w2 refl stays)) in
    empty_written s0 s1 w2 _ code _ p0 c.in_ok-put.ensures.ok p0 head stays c.in_ok-put-2.ensures.ok
    )

pub returns-in-False-clause-kept : goal.returns-in-False-clause-kept
returns-in-False-clause-kept g c = rw (← c.s.view_is) (
    let coded = rw (← c.s-in-False.view_is) at c.in_ok-serialize_u64.ensures.kept in
    keeps_more _ _ _ _ (keeps_then _ _ _ (keeps_once _ _ _ c.in_ok-put.ensures.ok) coded) c.in_ok-put-2.ensures.ok
    )
