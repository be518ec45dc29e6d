use Rattle.std.proofs.Common.{sym, ap, ◌∙◌}
use Rattle.amqp_endpoint_tables.specs.Spread.{Slots, beside, living}
use Rattle.amqp_endpoint_tables.proofs.Beside.{found-at, missing}
use Rattle.amqp_endpoint_tables.proofs.Spreading.{living-spread}
use Rattle.amqp_endpoint_tables.proofs.numbered.Numbered.get.Goals as goal

pub returns-in-Some : goal.returns-in-Some
returns-in-Some g c =
    let ps = c.self.inside.places.entries in
    let xs = c.self.inside.live.items in
    let i = c.in-Some.index in
    c.item_at.ensures
    ∙ sym (found-at ps xs c.self.invariant.1 c.args.number i (sym c.get_index_of.ensures.index ∙ c.in-Some.is))
    ∙ sym (living-spread c.self.inside.next (beside ps xs) c.self.invariant.0 c.args.number)
    ∙ ap (λ (s : Slots _). living s.items c.args.number) c.self.view_is

pub returns-in-None : goal.returns-in-None
returns-in-None g c =
    let ps = c.self.inside.places.entries in
    let xs = c.self.inside.live.items in
    sym (missing ps xs c.self.invariant.1 c.args.number (sym c.get_index_of.ensures.index ∙ c.in-None.is))
    ∙ sym (living-spread c.self.inside.next (beside ps xs) c.self.invariant.0 c.args.number)
    ∙ ap (λ (s : Slots _). living s.items c.args.number) c.self.view_is
