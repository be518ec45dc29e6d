use Rattle.std.proofs.Common.{◌≡◌, ◌≤◌, ◌^◌, ◌/◌, length, arith}
use Rattle.std.proofs.lemmas.Result.{on_ok_weaker}
use Rattle.serde_amqp_ser.specs.Puts.{state_of}
use Rattle.serde_amqp_ser.specs.Open.{in_turn}
use Rattle.serde_amqp_ser.proofs.Begun.{open_keeps, map_over, length-in_turn}
use Rattle.serde_amqp_ser.proofs.serializer.Serializer.close_map_content.Goals as goal

pub returns-then-content-eq18446744073709551615-clause-kept : goal.returns-then-content-eq18446744073709551615-clause-kept
returns-then-content-eq18446744073709551615-clause-kept g c = λ s xs h. open_keeps g.W.Sink.begins s.written xs (state_of g.W.Sink.written c.args.self.now) h.items

pub returns-then-content-eq18446744073709551615-clause-refused : goal.returns-then-content-eq18446744073709551615-clause-refused
returns-then-content-eq18446744073709551615-clause-refused g c = λ s ps h d.
    let many : 2 ^ 32 ≤ length (in_turn ps) = omega (arith, h.count, c.if-content-eq18446744073709551615.true) in
    map_over g.W.Sink.begins s.written ps (state_of g.W.Sink.written c.args.self.now) s h.items many

pub returns-clause-ok : goal.returns-clause-ok
returns-clause-ok g c =
    on_ok_weaker c.put_map_head.result
    (λ f s ps h.
    let count : length ps ≡ c.args.content.count / 2 = omega (arith, h.count, length-in_turn ps, c.if-content-eq18446744073709551615.false) in
    f s ps h.mark h.items count)
    c.put_map_head.ensures.ok

pub returns-clause-refused : goal.returns-clause-refused
returns-clause-refused g c = λ s ps h.
    let count : length ps ≡ c.args.content.count / 2 = omega (arith, h.count, length-in_turn ps, c.if-content-eq18446744073709551615.false) in
    c.put_map_head.ensures.refused s ps h.mark h.items count
