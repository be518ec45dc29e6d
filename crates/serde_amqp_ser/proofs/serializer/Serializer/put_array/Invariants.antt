use Rattle.std.proofs.Common.{◌≡◌, map, take, Some}
use Rattle.serde_amqp_ser.specs.Written.{inside}
use Rattle.serde_amqp_ser.specs.Puts.{state_of}
use Rattle.serde_amqp_ser.proofs.Arrayed.{arrayed}
use Rattle.serde_amqp_ser.proofs.serializer.Serializer.put_array.Given as goal

abbrev pub invariant-loop-element : goal.invariant-loop-element
invariant-loop-element g l =
    arrayed (inside g.W.Sink.begins (g.W.Sink.written l.fn.self.writer)) (map g.T.Serialize.item (take l.element-index l.elements)) ≡ Some (state_of g.W.Sink.written l.self)
