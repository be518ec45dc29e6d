use Rattle.std.proofs.Common.{◌∷◌, [], arith, length-append}
use Rattle.serde_amqp_ser.specs.Puts.{state_of}
use Rattle.serde_amqp_ser.proofs.Begun.{open_more}
use Rattle.serde_amqp_ser.proofs.serializer.Serializer.put_item.Goals as goal

pub returns-clause-ok : goal.returns-clause-ok
returns-clause-ok g c = λ s xs h. record {
  mark = h.mark;
  items = open_more g.W.Sink.begins s.written xs (g.T.Serialize.item c.args.item.now) (state_of g.W.Sink.written c.args.self.now) (state_of g.W.Sink.written c.serialize.new.s) h.items c.in_ok-serialize.ensures.ok;
  count = omega (arith, c.saturating_add.ensures, h.count, length-append xs (g.T.Serialize.item c.args.item.now ∷ []));
}
