use Rattle.std.proofs.lemmas.Result.{on_ok_weaker}
use Rattle.serde_amqp_ser.specs.Puts.{state_of}
use Rattle.serde_amqp_ser.proofs.Listed.{only_where}
use Rattle.serde_amqp_ser.proofs.Begun.{open_pair, value_stuck}
use Rattle.serde_amqp_ser.proofs.serializer.Serializer.put_pair.Goals as goal

pub returns-clause-ok : goal.returns-clause-ok
returns-clause-ok g c =
    on_ok_weaker c.serialize-2.result
    (λ f w ps o. open_pair g.W.Sink.begins w ps (g.K.Serialize.item c.args.key.now) (g.V.Serialize.item c.args.value.now) (state_of g.W.Sink.written c.args.self.now) (state_of g.W.Sink.written c.serialize.new.s) (state_of g.W.Sink.written c.serialize-2.new.s) o c.in_ok-serialize.ensures.ok f)
    c.serialize-2.ensures.ok

pub returns-clause-refused : goal.returns-clause-refused
returns-clause-refused g c = λ w ps qs t o.
    only_where c.serialize-2.result _ _ (value_stuck g.W.Sink.begins w ps qs (g.K.Serialize.item c.args.key.now) (g.V.Serialize.item c.args.value.now) (state_of g.W.Sink.written c.args.self.now) (state_of g.W.Sink.written c.serialize.new.s) t o c.in_ok-serialize.ensures.ok)
    c.serialize-2.ensures.refused
