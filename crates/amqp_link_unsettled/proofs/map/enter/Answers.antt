use Rattle.std.proofs.Common.{◌∙◌, ap, arith, ◌++◌, ◌∷◌, [], List, ℕ}
use Rattle.amqp_link_unsettled.specs.declared.slot.Slot.{Slot}
use Rattle.amqp_link_unsettled.specs.Rising.{standing}
use Rattle.amqp_link_unsettled.proofs.Ascending.{order-entered}
use Rattle.amqp_link_unsettled.proofs.Standing.{standing-append, standing-short}
use Rattle.amqp_link_unsettled.proofs.map.enter.Goals as goal

pub returns-clause-entries : goal.returns-clause-entries
returns-clause-entries g c =
    ap (λ (es : List (List ℕ × Slot _)). standing es) c.push.ensures.entries
    ∙ standing-append c.forget.new.slots.entries _
    ∙ ap (λ (xs : List (List ℕ × _)). xs ++ (c.args.tag, c.args.message) ∷ []) (c.forget.ensures.entries ∙ c.begun-bound.ensures.entries)

pub returns-clause-fits : goal.returns-clause-fits
returns-clause-fits g c = omega (arith, standing-short c.push.new.slots.entries, c.push.ensures.fits)

pub returns-clause-order : goal.returns-clause-order
returns-clause-order g c =
    order-entered g.M.Numbered.number_of c.begun-bound.result c.raised-bound.result c.number.result c.unwrap_or.result c.args.message
    c.forget.new.slots.entries c.push.new.slots.entries c.args.tag (c.forget.ensures.order c.begun-bound.result c.begun-bound.ensures.order)
    c.raised-bound.ensures c.number.ensures c.unwrap_or.ensures c.push.ensures.entries
