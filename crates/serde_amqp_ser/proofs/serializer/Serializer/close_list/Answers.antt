use Rattle.std.proofs.Common.{◌≤◌, length, arith}
use Rattle.std.proofs.lemmas.Result.{err_from_is_err_and}
use Rattle.serde_amqp_item.proofs.Texts.{count-le-length}
use Rattle.serde_amqp_ser.specs.Written.{inside}
use Rattle.serde_amqp_ser.specs.Puts.{place_of}
use Rattle.serde_amqp_ser.proofs.Listed.{listed_text, list_stuck, only_where, closing}
use Rattle.serde_amqp_ser.proofs.serializer.Serializer.close_list.Goals as goal

pub returns-clause-refused : goal.returns-clause-refused
returns-clause-refused g c = λ w xs e s n.
    let t = listed_text (inside g.W.Sink.begins w) _ xs e in
    let room : c.args.count ≤ length t.0 = omega (arith, count-le-length xs t.0 t.1, n) in
    let r = c.close_counted.ensures.refused w t.0 t.2 s room in
    only_where c.close_counted.result _ _ (list_stuck w (place_of c.args.self.now.element) xs t.0 t.1) (rw (← n) at r)

pub returns-in_err-close-clause-refused : goal.returns-in_err-close-clause-refused
returns-in_err-close-clause-refused g c = rw (← c.self.view_is) λ w xs e s n.
    let p = err_from_is_err_and c.from_residual.result c.from_residual.ensures.1 in
    let t = listed_text (inside g.W.Sink.begins w) _ xs e in
    rw (p.1, p.2) (closing _ g.W.Sink.begins w _ t.0 c.args.start _ c.in_err-close.ensures.refused t.2 s)
