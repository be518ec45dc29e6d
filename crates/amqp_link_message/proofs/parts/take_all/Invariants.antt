use Rattle.std.proofs.Common.{length, map}
use Rattle.amqp_link_message.specs.Front.{Run}
use Rattle.amqp_link_message.proofs.parts.take_all.Given as goal

abbrev pub invariant-sections : goal.invariant-sections
invariant-sections g l = Run g.S.Deserialize.take l.fn.bytes l.rest (map g.S.Deserialize.item l.sections.items)

abbrev pub decreases-sections : goal.decreases-sections
decreases-sections g l = length l.rest
