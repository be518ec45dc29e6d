use Rattle.std.proofs.Common.{◌≡◌, ◌∷◌, ap, List, ℕ, arith, subst}
use Rattle.std.specs.Int.{to_be_bytes, w16}
use Rattle.std.proofs.lemmas.Grind.{common_steps}
use Rattle.serde_amqp_item.specs.Canon.{canon}
use Rattle.serde_amqp_ser.specs.Puts.{place_of}
use Rattle.amqp_session_frames.specs.Sizes.{Appends}
use Rattle.amqp_session_frames.proofs.Sized.{appended}
use Rattle.amqp_session_frames.proofs.encoder.write_head.Goals as goal

pub returns-in-Ok-clause-ok : goal.returns-in-Ok-clause-ok
returns-in-Ok-clause-ok g c =
    let head : c.new-serializer.result.writer.items ≡ 2 ∷ 0 ∷ to_be_bytes w16 c.args.channel = grind (arith, common_steps) in
    let a = appended (g.T.Serialize.item c.args.performative.now) c.new-serializer.result.writer.items c.serialize.new.s.writer.items _ _ _ (ap place_of c.new-serializer.ensures.element) c.in-Ok.ensures.ok head in
    let same : c.serialize.new.s.writer.items ≡ c.into_inner.result.items = grind (arith, common_steps) in
    subst (λ (b : List ℕ). Appends (canon (g.T.Serialize.item c.args.performative.now)) (2 ∷ 0 ∷ to_be_bytes w16 c.args.channel) b) same a
