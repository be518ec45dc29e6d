use Rattle.std.proofs.Common.{sym, ap, ◌∙◌, None, slice_set}
use Rattle.amqp_endpoint_tables.specs.Spread.{Slots, beside, living}
use Rattle.amqp_endpoint_tables.proofs.Beside.{missing}
use Rattle.amqp_endpoint_tables.proofs.Spreading.{given-taken, living-spread, spread-edit}
use Rattle.amqp_endpoint_tables.proofs.numbered.Numbered.take.Goals as goal

pub invariant_of-self : goal.invariant_of-self
invariant_of-self g c =
    let es = beside c.self.inside.places.entries c.self.inside.live.items in
    let fs = beside c.take_at.new.places.entries c.take_at.new.live.items in (
      given-taken c.self.inside.next es fs c.args.number c.take_at.ensures.gone c.self.invariant.0,
      c.take_at.ensures.long,
    )

pub returns-in-Some-clause-value : goal.returns-in-Some-clause-value
returns-in-Some-clause-value g c =
    let es = beside c.self.inside.places.entries c.self.inside.live.items in
    sym c.take_at.ensures.value
    ∙ sym (living-spread c.self.inside.next es c.self.invariant.0 c.args.number)
    ∙ ap (λ (s : Slots _). living s.items c.args.number) c.self.view_is

pub returns-in-Some-clause-taken : goal.returns-in-Some-clause-taken
returns-in-Some-clause-taken g c =
    let es = beside c.self.inside.places.entries c.self.inside.live.items in
    let fs = beside c.take_at.new.places.entries c.take_at.new.live.items in
    spread-edit c.self.inside.next es fs c.args.number None c.take_at.ensures.gone
    ∙ ap (λ (s : Slots _). slice_set s.items c.args.number None) c.self.view_is

pub returns-in-None-clause-value : goal.returns-in-None-clause-value
returns-in-None-clause-value g c =
    let ps = c.self.inside.places.entries in
    let xs = c.self.inside.live.items in
    sym (missing ps xs c.self.invariant.1 c.args.number (sym c.get_index_of.ensures.index ∙ c.in-None.is))
    ∙ sym (living-spread c.self.inside.next (beside ps xs) c.self.invariant.0 c.args.number)
    ∙ ap (λ (s : Slots _). living s.items c.args.number) c.self.view_is
