use Rattle.std.proofs.Common.{[], ◌∷◌, ◌++◌}
use Rattle.std.proofs.lemmas.Result.{IfOk-weaker}
use Rattle.serde_amqp_ser.specs.Puts.{state_of}
use Rattle.serde_amqp_ser.specs.Open.{in_turn}
use Rattle.serde_amqp_ser.proofs.Held.{holds_pair}
use Rattle.serde_amqp_ser.proofs.serializer.Serializer.put_key_and_value.Goals as goal

pub returns-clause-ok : goal.returns-clause-ok
returns-clause-ok g c =
    IfOk-weaker c.put_item-2.result _ _
    (λ more f s ps h.
    let key = c.in_ok-keyed.ensures.ok s (in_turn ps) h in
    holds_pair g.W.Sink.begins s ps (g.K.Serialize.item c.args.key.now) (g.V.Serialize.item c.args.value.now) more (state_of g.W.Sink.written c.put_item-2.new.self) (f s (in_turn ps ++ g.K.Serialize.item c.args.key.now ∷ []) key))
    c.put_item-2.ensures.ok
