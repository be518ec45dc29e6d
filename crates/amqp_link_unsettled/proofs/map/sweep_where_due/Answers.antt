use Rattle.std.proofs.Common.{◌∙◌, ap, sym, subst, List, ℕ}
use Rattle.amqp_link_unsettled.specs.declared.slot.Slot.{Slot}
use Rattle.amqp_link_unsettled.specs.Rising.{InOrder, standing}
use Rattle.amqp_link_unsettled.proofs.Ascending.{order-swept}
use Rattle.amqp_link_unsettled.proofs.Standing.{standing-swept}
use Rattle.amqp_link_unsettled.proofs.map.sweep_where_due.Goals as goal

pub returns-clause-entries : goal.returns-clause-entries
returns-clause-entries g c = ap (λ (es : List (List ℕ × Slot _)). standing es) c.sweep.ensures.entries ∙ standing-swept c.args.slots.now.entries

pub returns-clause-order : goal.returns-clause-order
returns-clause-order g c = λ b rises.
    subst (λ (es : List (List ℕ × Slot _)). InOrder g.M.Numbered.number_of b es) (sym c.sweep.ensures.entries)
    (order-swept g.M.Numbered.number_of b c.args.slots.now.entries rises)
