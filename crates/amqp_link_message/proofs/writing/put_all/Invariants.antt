use Rattle.std.proofs.Common.{◌≡◌, map, take, Some}
use Rattle.serde_amqp_item.specs.Item.{items_of}
use Rattle.serde_amqp_item.specs.Canon.{alone}
use Rattle.serde_amqp_ser.specs.Puts.{listed, place_of}
use Rattle.amqp_link_message.proofs.writing.put_all.Given as goal

abbrev pub invariant-loop-section : goal.invariant-loop-section
invariant-loop-section g l = record {
  outside : place_of l.s.element ≡ alone;
  behind : listed (g.W.Sink.written l.fn.s.writer) (items_of (map g.S.Serialize.item (take l.section-index l.sections))) ≡ Some (g.W.Sink.written l.s.writer);
}
