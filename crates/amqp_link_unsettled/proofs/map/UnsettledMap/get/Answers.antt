use Rattle.std.proofs.Common.{◌≡◌, ◌∙◌, Some, None, option_copied, ap, sym, rules}
use Rattle.std.specs.Map.{lookup}
use Rattle.std.specs.Str.{bytes_eq}
use Rattle.amqp_link_unsettled.specs.Entries.{Kept}
use Rattle.amqp_link_unsettled.specs.declared.slot.Slot.{Slot}
use Rattle.amqp_link_unsettled.proofs.Standing.{standing-slot, standing-unknown}
use Rattle.amqp_link_unsettled.proofs.map.UnsettledMap.get.Goals as goal

pub returns-in_err-get : goal.returns-in_err-get
returns-in_err-get g c =
    let es = c.self.inside.slots.entries in
    let none : lookup (bytes_eq c.args.tag.now) es ≡ None = search rules in
    let gave : option_copied c.from_residual.result ≡ None = search rules in
    gave ∙ sym (standing-unknown es c.len.ensures.unique c.args.tag.now none)
    ∙ ap (λ (k : Kept _). lookup (bytes_eq c.args.tag.now) k.entries) c.self.view_is

pub returns : goal.returns
returns g c =
    let es = c.self.inside.slots.entries in
    let s : Slot _ = c.in_ok-get.field-0.now in
    let found : lookup (bytes_eq c.args.tag.now) es ≡ Some s = search rules in
    c.as_ref.ensures.value ∙ sym (standing-slot es c.len.ensures.unique c.args.tag.now s found)
    ∙ ap (λ (k : Kept _). lookup (bytes_eq c.args.tag.now) k.entries) c.self.view_is
