use Rattle.std.proofs.Common.{arith, ap, ◌≡◌, ◌++◌}
use Rattle.std.proofs.lemmas.Grind.{common_steps}
use Rattle.std.proofs.lemmas.Result.{on_ok_weaker}
use Rattle.serde_amqp_ser.specs.Puts.{place_of}
use Rattle.serde_amqp_ser.proofs.Listed.{alone_gives}
use Rattle.serde_amqp_ser.proofs.Ends.{vec_text}
use Rattle.serde_amqp_ser.proofs.edge.append_to_vec.Goals as goal

pub returns-else-is_err-clause-ok : goal.returns-else-is_err-clause-ok
returns-else-is_err-clause-ok g c = on_ok_weaker c.serialize-result.result
    (λ f.
    let h = alone_gives (g.T.Serialize.item c.args.value.now) _ _ (ap place_of c.new-s.ensures.element) f in
    let bytes = vec_text c.new-s.result.writer.items c.serialize-result.new.s.writer.items h.0 h.2 in
    let start : c.new-s.result.writer.items ≡ c.args.bytes.now.items = grind (arith, common_steps) in
    let same : c.into_inner.result.items ≡ c.args.bytes.now.items ++ h.0 = grind (arith, common_steps, bytes, start, c.into_inner.ensures) in
    (h.0, h.1, same))
    c.serialize-result.ensures.ok
