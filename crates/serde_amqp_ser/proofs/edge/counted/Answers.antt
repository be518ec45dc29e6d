use Rattle.std.proofs.Common.{arith, ap, ◌≡◌, ◌∙◌}
use Rattle.serde_amqp_ser.specs.Puts.{place_of}
use Rattle.serde_amqp_ser.proofs.Listed.{alone_gives}
use Rattle.serde_amqp_ser.proofs.Ends.{counter_text}
use Rattle.serde_amqp_ser.proofs.edge.counted.Goals as goal

pub returns-clause-ok : goal.returns-clause-ok
returns-clause-ok g c =
    let h = alone_gives (g.T.Serialize.item c.args.value.now) _ _ (ap place_of c.new-s.ensures.element) c.in_ok-serialize.ensures.ok in
    let size = counter_text c.new-s.result.writer c.serialize.new.s.writer h.0 h.2 in
    let start : c.new-s.result.writer ≡ 0 = c.new-s.ensures.writer ∙ c.new.ensures in
    (h.0, h.1, omega (arith, c.count.ensures, start, size))
