use Rattle.std.proofs.Common.{◌≡◌, map, take, Some}
use Rattle.serde_amqp_item.specs.Item.{items_of}
use Rattle.serde_amqp_item.specs.Canon.{alone}
use Rattle.serde_amqp_ser.specs.Written.{inside}
use Rattle.serde_amqp_ser.specs.Puts.{listed, place_of}
use Rattle.serde_amqp_ser.proofs.serializer.Serializer.put_list.Given as goal

abbrev pub invariant-loop-item : goal.invariant-loop-item
invariant-loop-item g l = record {
  outside : place_of l.self.element ≡ alone;
  behind : listed (inside g.W.Sink.begins (g.W.Sink.written l.fn.self.writer)) (items_of (map g.T.Serialize.item (take l.item-index l.items))) ≡ Some (g.W.Sink.written l.self.writer);
}
