use Rattle.std.proofs.Common.{arith, ◌≡◌, ◌∙◌}
use Rattle.serde_amqp_item.specs.Item.{items_of}
use Rattle.serde_amqp_ser.proofs.Listed.{listed_text}
use Rattle.serde_amqp_ser.proofs.Ends.{counter_text}
use Rattle.amqp_link_message.proofs.payload.counted.Goals as goal

pub returns-clause-ok : goal.returns-clause-ok
returns-clause-ok g c =
    let t = listed_text _ _ (items_of (g.P.WriteParts.items c.args.parts.now)) c.in_ok-put.ensures.ok in
    let size = counter_text c.new-s.result.writer c.put.new.s.writer t.0 t.2 in
    let start : c.new-s.result.writer ≡ 0 = c.new-s.ensures.writer ∙ c.new.ensures in
    (t.0, t.1, omega (arith, c.count.ensures, start, size))
