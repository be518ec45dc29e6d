use Rattle.std.proofs.Common.{[], ◌∷◌, ◌++◌, refl}
use Rattle.serde_amqp_ser.specs.Puts.{state_of}
use Rattle.serde_amqp_ser.specs.Open.{in_turn}
use Rattle.serde_amqp_ser.proofs.Held.{holds_pair}
use Rattle.serde_amqp_ser.proofs.map_serializer.MapSerializer.serialize_value.Goals as goal

pub returns-clause-ok : goal.returns-clause-ok
returns-clause-ok g c = λ s ps key h. record {
  items = holds_pair g.W.Sink.begins s ps key (g.V.Serialize.item c.args.value.now) c.in_ok-self.field-0 (state_of g.W.Sink.written c.put_item.new.self) (c.in_ok-self.ensures.ok s (in_turn ps ++ key ∷ []) h.items);
  half = refl;
}
