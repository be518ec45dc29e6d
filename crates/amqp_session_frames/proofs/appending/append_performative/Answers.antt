use Rattle.std.proofs.Common.{◌≡◌, ap, List, ℕ, arith, subst}
use Rattle.std.proofs.lemmas.Grind.{common_steps}
use Rattle.serde_amqp_item.specs.Canon.{canon}
use Rattle.serde_amqp_ser.specs.Puts.{place_of}
use Rattle.amqp_session_frames.specs.Sizes.{Appends}
use Rattle.amqp_session_frames.proofs.Sized.{appended}
use Rattle.amqp_session_frames.proofs.appending.append_performative.Goals as goal

pub returns-in-Ok-clause-ok : goal.returns-in-Ok-clause-ok
returns-in-Ok-clause-ok g c =
    let before : c.new-serializer.result.writer.items ≡ c.args.out.now.items = grind (arith, common_steps) in
    let a = appended (g.P.Serialize.item c.args.performative.now) c.new-serializer.result.writer.items
    c.serialize-written.new.s.writer.items _ _ _ (ap place_of c.new-serializer.ensures.element)
    c.in-Ok.ensures.ok before in
    let same : c.serialize-written.new.s.writer.items ≡ c.into_inner.result.items = grind (arith, common_steps) in
    subst (λ (b : List ℕ). Appends (canon (g.P.Serialize.item c.args.performative.now)) c.args.out.now.items b) same a
