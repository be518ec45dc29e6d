use Rattle.std.proofs.Common.{◌∙◌, List, ap, arith, length, sym}
use Rattle.amqp_link_unsettled.specs.Rising.{standing}
use Rattle.amqp_link_unsettled.proofs.Noted.{as_many}
use Rattle.amqp_link_unsettled.proofs.map.UnsettledMap.note_where_kept.Goals as goal

pub invariant_of-self : goal.invariant_of-self
invariant_of-self g c = (
  c.self.invariant.0 ∙ as_many _ c.args.tag.now (standing c.self.inside.slots.entries)
      ∙ sym (ap (λ (xs : List _). length xs) c.note_in-self-inside.ensures.entries),
  omega (arith, c.self.invariant.1, c.note_in-self-inside.ensures.room),
  c.note_in-self-inside.ensures.order,
)
