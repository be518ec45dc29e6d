use Rattle.std.proofs.Common.{arith, ap, ◌∙◌, sym, ◌≡◌, Some, List, [], ℕ}
use Rattle.std.proofs.lemmas.Grind.{common_steps}
use Rattle.serde_amqp_ser.specs.Puts.{place_of}
use Rattle.serde_amqp_ser.proofs.Listed.{alone_gives}
use Rattle.serde_amqp_ser.proofs.Ends.{vec_text}
use Rattle.serde_amqp_ser.proofs.edge.to_vec.Goals as goal

pub returns-clause-ok : goal.returns-clause-ok
returns-clause-ok g c =
    let h = alone_gives (g.T.Serialize.item c.args.value.now) _ _ (ap place_of c.new-s.ensures.element) c.in_ok-serialize.ensures.ok in
    let bytes = vec_text c.new-s.result.writer.items c.serialize.new.s.writer.items h.0 h.2 in
    let start : c.new-s.result.writer.items ≡ [] = grind (arith, common_steps) in
    let same : c.into_inner.result.items ≡ h.0 = grind (arith, common_steps, bytes, start, c.into_inner.ensures) in
    h.1 ∙ ap (λ (s : List ℕ). Some s) (sym same)
