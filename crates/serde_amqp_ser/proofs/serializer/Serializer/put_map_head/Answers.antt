use Rattle.std.proofs.Common.{◌≡◌, ◌≤◌, ◌*◌, ◌^◌, ◌∙◌, Option, length, arith, sym, subst}
use Rattle.std.proofs.lemmas.Result.{on_ok_weaker}
use Rattle.serde_amqp_ser.specs.Puts.{State, OnlyWhere, state_of, place_of}
use Rattle.serde_amqp_ser.proofs.Begun.{map_content, map_long, pairs_text}
use Rattle.serde_amqp_ser.proofs.serializer.Serializer.put_map_head.Goals as goal

pub returns-in_default-clause-refused : goal.returns-in_default-clause-refused
returns-in_default-clause-refused g c = λ s ps m o n d.
    let t = pairs_text g.W.Sink.begins s.written ps (state_of g.W.Sink.written c.args.self.now) o in
    let many : 2 ^ 32 ≤ 2 * length ps = omega (arith, c.in_default.ensures, n) in
    map_long s ps t.0 t.1 many

pub returns-clause-ok : goal.returns-clause-ok
returns-clause-ok g c = rw (← c.self.view_is) (
    let mid : State = record { written = g.W.Sink.written c.self.inside.writer; place = place_of c.self.inside.element } in
    on_ok_weaker c.close_counted.result
    (λ f s ps m o n.
    let count : 2 * length ps ≡ c.in-Some.count = omega (arith, c.in-Some.ensures, n) in
    let t = map_content g.W.Sink.begins s mid c.args.opened ps c.in-Some.count m o count in
    t.same ∙ f s.written t.content t.behind_it m.start)
    c.close_counted.ensures.ok
    )

pub returns-clause-refused : goal.returns-clause-refused
returns-clause-refused g c = rw (← c.self.view_is) λ s ps m o n.
    let mid : State = record { written = g.W.Sink.written c.self.inside.writer; place = place_of c.self.inside.element } in
    let count : 2 * length ps ≡ c.in-Some.count = omega (arith, c.in-Some.ensures, n) in
    let t = map_content g.W.Sink.begins s mid c.args.opened ps c.in-Some.count m o count in
    subst (λ (r : Option State). OnlyWhere c.close_counted.result r) (sym t.same) (c.close_counted.ensures.refused s.written t.content t.behind_it m.start t.room)
