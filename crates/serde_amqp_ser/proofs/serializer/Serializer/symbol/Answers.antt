use Rattle.std.proofs.Common.{ap, ◌∙◌}
use Rattle.std.proofs.lemmas.Result.{on_ok_weaker}
use Rattle.serde_amqp_ser.specs.Puts.{behind, state_of, place_of}
use Rattle.serde_amqp_ser.proofs.Texts.{symbol_placed}
use Rattle.serde_amqp_ser.proofs.serializer.Serializer.symbol.Goals as goal

pub returns-clause-ok : goal.returns-clause-ok
returns-clause-ok g c =
    let same = ap (behind (state_of g.W.Sink.written c.args.self.now)) (symbol_placed (place_of c.args.self.now.element) c.args.value.now c.utf8.value) in
    on_ok_weaker c.put_sized.result (λ f. same ∙ (rw c.as_bytes.ensures.value at f)) c.put_sized.ensures.ok
