use Rattle.std.proofs.Common.{◌∙◌, ap, sym, arith, length, List, ℕ}
use Rattle.std.proofs.lemmas.List.{length-reverse}
use Rattle.amqp_link_unsettled.specs.Rising.{standing}
use Rattle.amqp_link_unsettled.proofs.Standing.{standing-reverse}
use Rattle.amqp_link_unsettled.specs.declared.slot.Slot.{Slot}
use Rattle.amqp_link_unsettled.proofs.map.UnsettledMap.reverse.Goals as goal

pub invariant_of-self : goal.invariant_of-self
invariant_of-self g c = (
  c.self.invariant.0
      ∙ sym (length-reverse (standing c.self.inside.slots.entries))
      ∙ sym (ap (λ (es : List (List ℕ × Slot _)). length (standing es)) c.reverse.ensures.entries ∙ ap (λ (es : List (List ℕ × _)). length es) (standing-reverse c.self.inside.slots.entries)),
  omega (arith, c.self.invariant.1, c.reverse.ensures.room.0),
  tt,
)
