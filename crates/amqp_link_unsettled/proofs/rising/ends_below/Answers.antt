use Rattle.std.proofs.Common.{◌∙◌, ap, sym, nat_le, ℕ, List}
use Rattle.amqp_link_unsettled.specs.declared.slot.Slot.{Slot}
use Rattle.amqp_link_unsettled.specs.Rising.{ends}
use Rattle.amqp_link_unsettled.proofs.Ascending.{ends-append}
use Rattle.amqp_link_unsettled.proofs.rising.ends_below.Goals as goal

pub returns : goal.returns
returns g c =
    let last : List ℕ × Slot _ = (c.in-Some.last.0.now, c.in-Some.last.1.now) in
    ap (λ n. nat_le n c.args.number) (sym (ap (λ es. ends 0 es) c.in-Some.ensures.parts ∙ ends-append 0 c.in-Some.field-0-1 last))
