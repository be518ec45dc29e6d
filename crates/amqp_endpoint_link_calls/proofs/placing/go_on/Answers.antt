use Rattle.std.proofs.Common.{List, arith, subst}
use Rattle.amqp_endpoint_model.specs.declared.event.Event.{Event}
use Rattle.amqp_endpoint_messages.specs.GoingOn.{DoesAttached}
use Rattle.amqp_endpoint_link_calls.proofs.placing.go_on.Goals as goal

pub push_reserved-requires : goal.push_reserved-requires
push_reserved-requires c = omega (arith, c.requires.tells)

pub go_on_attached-requires-clause-tells : goal.go_on_attached-requires-clause-tells
go_on_attached-requires-clause-tells c =
    omega (arith, c.requires.tells, c.push_reserved.ensures.len, c.push_reserved.ensures.capacity)

pub returns-clause-does : goal.returns-clause-does
returns-clause-does c = λ limit aborts ons made.
    let closing = c.args.behind.ready.closing in
    subst
    (λ (events : List Event). DoesAttached limit closing.session closing.count closing.handle closing.why aborts
    c.args.answered.kept ons c.args.live.now c.args.out.now.items events c.go_on_attached.new.session
    c.go_on_attached.new.out.items c.go_on_attached.new.events.items)
    c.push_reserved.ensures.items (c.go_on_attached.ensures limit aborts ons made)
