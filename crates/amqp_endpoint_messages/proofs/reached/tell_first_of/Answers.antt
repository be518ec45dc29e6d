use Rattle.std.proofs.Common.{List, ◌++◌, sym, ap, ◌∙◌}
use Rattle.amqp_endpoint_model.specs.declared.event.Event.{Event}
use Rattle.amqp_endpoint_messages.proofs.Firsts.{next-behind, next-told, none-behind, none-told}
use Rattle.amqp_endpoint_messages.proofs.reached.tell_first_of.Goals as goal

pub returns-then-is_first-clause-told : goal.returns-then-is_first-clause-told
returns-then-is_first-clause-told c =
    c.tell_next.ensures.told
    ∙ ap (λ (es : List Event). c.args.events.now.items ++ es)
    (next-told c.args.number c.args.tag.now c.args.sender.now.messages.resolved
    (sym c.is_first.ensures ∙ c.if-is_first.true))

pub returns-then-is_first-clause-behind : goal.returns-then-is_first-clause-behind
returns-then-is_first-clause-behind c =
    c.tell_next.ensures.behind
    ∙ next-behind c.args.tag.now c.args.sender.now (sym c.is_first.ensures ∙ c.if-is_first.true)

pub returns-clause-told : goal.returns-clause-told
returns-clause-told c =
    none-told c.args.number c.args.tag.now c.args.sender.now.messages.resolved c.args.events.now.items
    (sym c.is_first.ensures ∙ c.if-is_first.false)

pub returns-clause-behind : goal.returns-clause-behind
returns-clause-behind c =
    none-behind c.args.tag.now c.args.sender.now (sym c.is_first.ensures ∙ c.if-is_first.false)
