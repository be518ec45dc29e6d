use Rattle.std.proofs.Common.{◌≤◌, ◌^◌, ◌≡◌, length, arith}
use Rattle.std.proofs.lemmas.Result.{on_ok_weaker}
use Rattle.serde_amqp_ser.specs.Puts.{state_of}
use Rattle.serde_amqp_ser.proofs.Begun.{open_keeps, list_over}
use Rattle.serde_amqp_ser.proofs.serializer.Serializer.close_list_content.Goals as goal

pub returns-then-content-eq18446744073709551615-clause-kept : goal.returns-then-content-eq18446744073709551615-clause-kept
returns-then-content-eq18446744073709551615-clause-kept g c = λ s xs h. open_keeps g.W.Sink.begins s.written xs (state_of g.W.Sink.written c.args.self.now) h.items

pub returns-then-content-eq18446744073709551615-clause-refused : goal.returns-then-content-eq18446744073709551615-clause-refused
returns-then-content-eq18446744073709551615-clause-refused g c = λ s xs h d.
    let many : 2 ^ 32 ≤ length xs = omega (arith, h.count, c.if-content-eq18446744073709551615.true) in
    list_over g.W.Sink.begins s.written xs (state_of g.W.Sink.written c.args.self.now) s h.items many

pub returns-clause-ok : goal.returns-clause-ok
returns-clause-ok g c =
    on_ok_weaker c.put_list_head.result
    (λ f s xs h.
    let count : length xs ≡ c.args.content.count = omega (arith, h.count, c.if-content-eq18446744073709551615.false) in
    f s xs h.mark h.items count)
    c.put_list_head.ensures.ok

pub returns-clause-refused : goal.returns-clause-refused
returns-clause-refused g c = λ s xs h.
    let count : length xs ≡ c.args.content.count = omega (arith, h.count, c.if-content-eq18446744073709551615.false) in
    c.put_list_head.ensures.refused s xs h.mark h.items count
