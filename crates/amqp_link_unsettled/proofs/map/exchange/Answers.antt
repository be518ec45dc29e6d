use Rattle.std.proofs.Common.{◌≡◌, ◌∙◌, ℕ, List, Option, Some, None, IsSome, is_some, true≢false, ap, refl, sym, subst, rules}
use Rattle.std.specs.List.{position_or_len}
use Rattle.std.specs.Map.{keys_of, lookup, set_value}
use Rattle.std.specs.Str.{bytes_eq}
use Rattle.amqp_link_unsettled.specs.declared.slot.Slot.{Slot}
use Rattle.amqp_link_unsettled.specs.Numbers.{kept_number}
use Rattle.amqp_link_unsettled.specs.Rising.{standing}
use Rattle.amqp_link_unsettled.proofs.Ascending.{order-stamped, set-at}
use Rattle.amqp_link_unsettled.proofs.Standing.{standing-exchanged, standing-slot, standing-unknown}
use Rattle.amqp_link_unsettled.proofs.map.exchange.Goals as goal

pub unreachable-requires : goal.unreachable-requires
unreachable-requires g c =
    let none : lookup (bytes_eq c.args.tag.now) c.args.slots.now.entries ≡ None = search rules in
    true≢false (sym c.requires.there ∙ ap is_some (standing-unknown c.args.slots.now.entries c.get_mut.ensures.unique c.args.tag.now none))

pub unwrap-earlier-requires : goal.unwrap-earlier-requires
unwrap-earlier-requires g c =
    let found : lookup (bytes_eq c.args.tag.now) c.args.slots.now.entries ≡ Some c.in-Some.slot.now = search rules in
    subst (λ (o : Option _). IsSome o)
    (standing-slot c.args.slots.now.entries c.get_mut.ensures.unique c.args.tag.now c.in-Some.slot.now found ∙ sym c.replace.ensures.value)
    c.requires.there

pub returns-clause-earlier : goal.returns-clause-earlier
returns-clause-earlier g c =
    let found : lookup (bytes_eq c.args.tag.now) c.args.slots.now.entries ≡ Some c.in-Some.slot.now = search rules in
    standing-slot c.args.slots.now.entries c.get_mut.ensures.unique c.args.tag.now c.in-Some.slot.now found ∙ sym c.replace.ensures.value ∙ c.unwrap-earlier.ensures

pub returns-clause-entries : goal.returns-clause-entries
returns-clause-entries g c =
    let es = c.args.slots.now.entries in
    let w : Slot _ = record { below = c.restamped-below.result.0; kept = c.replace.new.self } in
    let found : lookup (bytes_eq c.args.tag.now) es ≡ Some c.in-Some.slot.now = search rules in
    let same : (c.get_mut.follows.lender w).entries ≡ set_value (bytes_eq c.args.tag.now) es w = search rules in
    ap (λ (xs : List (List ℕ × Slot _)). standing xs) same
    ∙ standing-exchanged es c.get_mut.ensures.unique c.args.tag.now c.in-Some.slot.now w c.unwrap-earlier.result c.args.message found
    (sym c.replace.ensures.value ∙ c.unwrap-earlier.ensures) c.replace.ensures.after

pub returns-clause-order : goal.returns-clause-order
returns-clause-order g c =
    let es = c.args.slots.now.entries in
    let w : Slot _ = record { below = c.restamped-below.result.0; kept = c.replace.new.self } in
    let found : lookup (bytes_eq c.args.tag.now) es ≡ Some c.in-Some.slot.now = search rules in
    let same : (c.get_mut.follows.lender w).entries ≡ set_value (bytes_eq c.args.tag.now) es w = search rules in
    order-stamped g.M.Numbered.number_of (bytes_eq c.args.tag.now) es (c.get_mut.follows.lender w).entries c.in-Some.slot.now w found c.args.bound.now
    c.number.result c.number-after.result _ (position_or_len (bytes_eq c.args.tag.now) (keys_of es)) c.restamped-below.result
    same (set-at (bytes_eq c.args.tag.now) es w) (λ e. absurd (true≢false (sym e))) c.restamped-below.ensures
    (c.number.ensures ∙ sym (ap (kept_number g.M.Numbered.number_of) (sym c.replace.ensures.value ∙ c.unwrap-earlier.ensures)))
    (c.number-after.ensures ∙ sym (ap (kept_number g.M.Numbered.number_of) c.replace.ensures.after)) refl c.requires.order
