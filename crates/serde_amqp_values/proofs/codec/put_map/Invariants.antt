use Rattle.std.proofs.Common.{◌≡◌, List, ◌++◌}
use Rattle.serde_amqp_ser.specs.Puts.{state_of}
use Rattle.serde_amqp_item.specs.Entries.{pair_items}
use Rattle.serde_amqp_ser.specs.Open.{IsOpen, in_turn}
use Rattle.serde_amqp_values.proofs.codec.put_map.Given as goal

abbrev pub invariant-loop-key : goal.invariant-loop-key
invariant-loop-key g l =
    (done : List _) × (l.pairs ≡ done ++ l.key-iterator) × IsOpen g.W.Sink.begins (g.W.Sink.written l.fn.s.writer) (in_turn (pair_items g.K.Serialize.item g.V.Serialize.item done)) (state_of g.W.Sink.written l.s)
