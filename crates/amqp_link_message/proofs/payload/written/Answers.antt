use Rattle.std.proofs.Common.{arith, ap, ◌∙◌, sym, ◌≡◌, Some, List, [], ℕ}
use Rattle.std.proofs.lemmas.Grind.{common_steps}
use Rattle.serde_amqp_item.specs.Item.{items_of}
use Rattle.serde_amqp_ser.proofs.Listed.{listed_text}
use Rattle.serde_amqp_ser.proofs.Ends.{vec_text}
use Rattle.amqp_link_message.proofs.payload.written.Goals as goal

pub returns-clause-ok : goal.returns-clause-ok
returns-clause-ok g c =
    let t = listed_text _ _ (items_of (g.P.WriteParts.items c.args.parts.now)) c.in_ok-put.ensures.ok in
    let bytes = vec_text c.new-s.result.writer.items c.put.new.s.writer.items t.0 t.2 in
    let start : c.new-s.result.writer.items ≡ [] = grind (arith, common_steps) in
    let same : c.into_inner.result.items ≡ t.0 = grind (arith, common_steps, bytes, start, c.into_inner.ensures) in
    t.1 ∙ ap (λ (s : List ℕ). Some s) (sym same)
