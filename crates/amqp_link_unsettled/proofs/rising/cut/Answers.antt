use Rattle.std.proofs.Common.{◌∙◌, ℕ, ◌<◌, ◌≤◌, List, length, nat_le, ap, sym, rules}
use Rattle.amqp_link_unsettled.specs.declared.slot.Slot.{Slot}
use Rattle.amqp_link_unsettled.specs.Rising.{ends}
use Rattle.amqp_link_unsettled.proofs.Seeking.{first-rises, first-shorter, in-first, in-second, second-rises, second-shorter}
use Rattle.amqp_link_unsettled.proofs.rising.cut.Goals as goal

pub returns-then-ends_below-clause-same : goal.returns-then-ends_below-clause-same
returns-then-ends_below-clause-same g c =
    let some : 0 < c.args.at = search rules in
    let within : c.args.at ≤ length c.args.slots = search rules in
    in-second g.M.Numbered.number_of c.args.number c.args.slots c.args.at some within c.requires c.split_at-front.result.1 c.split_at-front.ensures.back
    (sym c.if-ends_below.true ∙ c.ends_below.ensures ∙ ap (λ (es : List (List ℕ × Slot _)). nat_le (ends 0 es) c.args.number) c.split_at-front.ensures.front)

pub returns-then-ends_below-clause-rises : goal.returns-then-ends_below-clause-rises
returns-then-ends_below-clause-rises g c =
    let some : 0 < c.args.at = search rules in
    let within : c.args.at ≤ length c.args.slots = search rules in
    second-rises g.M.Numbered.number_of c.args.number c.args.slots c.args.at some within c.requires c.split_at-front.result.1 c.split_at-front.ensures.back

pub returns-then-ends_below-clause-shorter : goal.returns-then-ends_below-clause-shorter
returns-then-ends_below-clause-shorter g c = λ some less.
    let within : c.args.at ≤ length c.args.slots = search rules in
    second-shorter g.M.Numbered.number_of c.args.number c.args.slots c.args.at some within c.requires c.split_at-front.result.1 c.split_at-front.ensures.back

pub returns-clause-same : goal.returns-clause-same
returns-clause-same g c =
    let some : 0 < c.args.at = search rules in
    let within : c.args.at ≤ length c.args.slots = search rules in
    in-first g.M.Numbered.number_of c.args.number c.args.slots c.args.at some within c.requires c.split_at-front.result.0 c.split_at-front.ensures.front
    (sym c.if-ends_below.false ∙ c.ends_below.ensures ∙ ap (λ (es : List (List ℕ × Slot _)). nat_le (ends 0 es) c.args.number) c.split_at-front.ensures.front)

pub returns-clause-rises : goal.returns-clause-rises
returns-clause-rises g c =
    let some : 0 < c.args.at = search rules in
    let within : c.args.at ≤ length c.args.slots = search rules in
    first-rises g.M.Numbered.number_of c.args.number c.args.slots c.args.at some within c.requires c.split_at-front.result.0 c.split_at-front.ensures.front

pub returns-clause-shorter : goal.returns-clause-shorter
returns-clause-shorter g c = λ some less.
    let within : c.args.at ≤ length c.args.slots = search rules in
    first-shorter g.M.Numbered.number_of c.args.number c.args.slots c.args.at some within c.requires c.split_at-front.result.0 c.split_at-front.ensures.front less
