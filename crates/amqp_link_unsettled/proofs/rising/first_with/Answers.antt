use Rattle.std.proofs.Common.{◌∙◌, ap}
use Rattle.amqp_link_unsettled.specs.Numbers.{is_number}
use Rattle.amqp_link_unsettled.proofs.Seeking.{first-bears, goes-on}
use Rattle.amqp_link_unsettled.proofs.rising.first_with.Goals as goal

pub returns-then-is_number : goal.returns-then-is_number
returns-then-is_number g c =
    first-bears g.M.Numbered.number_of c.loop-tag.entries c.args.entries c.next.new.self c.in-Some.tag.now c.in-Some.message.now c.args.number
    c.is_number.result c.loop-tag.invariant c.in-Some.ensures.steps (c.is_number.ensures ∙ ap (is_number c.args.number) c.number.ensures) c.if-is_number.true

pub loop-tag-preserved : goal.loop-tag-preserved
loop-tag-preserved g c =
    goes-on g.M.Numbered.number_of c.loop-tag.entries c.args.entries c.next.new.self c.in-Some.tag.now c.in-Some.message.now c.args.number
    c.is_number.result c.loop-tag.invariant c.in-Some.ensures.steps (c.is_number.ensures ∙ ap (is_number c.args.number) c.number.ensures) c.if-is_number.false
