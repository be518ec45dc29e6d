use Rattle.std.proofs.Common.{◌∙◌, ◌++◌, List, ap}
use Rattle.amqp_endpoint_model.specs.declared.event.Event.{Event}
use Rattle.amqp_endpoint_linking.specs.Calling.{fault_told}
use Rattle.amqp_endpoint_linking.proofs.Calls.{failed-tells}
use Rattle.amqp_endpoint_linking.proofs.calling.fail.Goals as goal

pub returns-in-Ok-clause-ok : goal.returns-in-Ok-clause-ok
returns-in-Ok-clause-ok c =
    failed-tells c.args.talk.now c.fail.new.talk c.args.out.now.items c.fail.new.out.items c.args.links.now
    c.give_back.new.links c.args.number c.in-Ok.failed c.give_back.ensures c.args.fault c.args.events.now.items
    c.tell_fault.new.events.items c.in-Ok.ensures.ok
    (c.tell_fault.ensures
    ∙ ap (λ (told : List Event). told ++ fault_told c.args.number c.args.fault) c.reserve.ensures.items)
