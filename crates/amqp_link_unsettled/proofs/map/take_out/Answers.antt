use Rattle.std.proofs.Common.{◌≡◌, ◌∙◌, ℕ, List, Some, None, ap, refl, sym, subst, rules}
use Rattle.std.specs.Map.{lookup, set_value}
use Rattle.std.specs.Str.{bytes_eq}
use Rattle.amqp_link_unsettled.specs.declared.slot.Slot.{Slot}
use Rattle.amqp_link_unsettled.specs.Rising.{InOrder, standing}
use Rattle.amqp_link_unsettled.proofs.Ascending.{order-taken}
use Rattle.amqp_link_unsettled.proofs.Standing.{standing-removed, standing-slot, standing-taken, standing-unknown}
use Rattle.amqp_link_unsettled.proofs.map.take_out.Goals as goal

pub returns-in_err-get_mut-clause-value : goal.returns-in_err-get_mut-clause-value
returns-in_err-get_mut-clause-value g c =
    let none : lookup (bytes_eq c.args.tag.now) c.args.slots.now.entries ≡ None = search rules in
    let gave : c.from_residual.result ≡ None = search rules in
    gave ∙ sym (standing-unknown c.args.slots.now.entries c.get_mut.ensures.unique c.args.tag.now none)

pub returns-in_err-get_mut-clause-others : goal.returns-in_err-get_mut-clause-others
returns-in_err-get_mut-clause-others g c =
    let none : lookup (bytes_eq c.args.tag.now) c.args.slots.now.entries ≡ None = search rules in
    let same : c.get_mut.follows.lender-at-none.entries ≡ c.args.slots.now.entries = search rules in
    ap (λ (xs : List (List ℕ × Slot _)). standing xs) same
    ∙ standing-removed c.args.slots.now.entries c.get_mut.ensures.unique c.args.tag.now none

pub returns-clause-value : goal.returns-clause-value
returns-clause-value g c =
    let s : Slot _ = c.in_ok-get_mut.field-0.now in
    let found : lookup (bytes_eq c.args.tag.now) c.args.slots.now.entries ≡ Some s = search rules in
    c.take.ensures.value ∙ sym (standing-slot c.args.slots.now.entries c.get_mut.ensures.unique c.args.tag.now s found)

pub returns-clause-others : goal.returns-clause-others
returns-clause-others g c =
    let s : Slot _ = c.in_ok-get_mut.field-0.now in
    let w : Slot _ = record { below = s.below; kept = c.take.new.self } in
    let same : (c.get_mut.follows.lender w).entries ≡ set_value (bytes_eq c.args.tag.now) c.args.slots.now.entries w = search rules in
    ap (λ (xs : List (List ℕ × Slot _)). standing xs) same
    ∙ standing-taken c.args.slots.now.entries c.get_mut.ensures.unique c.args.tag.now w c.take.ensures.after

pub returns-clause-order : goal.returns-clause-order
returns-clause-order g c = λ b order.
    let s : Slot _ = c.in_ok-get_mut.field-0.now in
    let w : Slot _ = record { below = s.below; kept = c.take.new.self } in
    let found : lookup (bytes_eq c.args.tag.now) c.args.slots.now.entries ≡ Some s = search rules in
    let same : (c.get_mut.follows.lender w).entries ≡ set_value (bytes_eq c.args.tag.now) c.args.slots.now.entries w = search rules in
    subst (λ (xs : List (List ℕ × Slot _)). InOrder g.M.Numbered.number_of b xs) (sym same)
    (order-taken g.M.Numbered.number_of (bytes_eq c.args.tag.now) b c.args.slots.now.entries s w found refl c.take.ensures.after order)
