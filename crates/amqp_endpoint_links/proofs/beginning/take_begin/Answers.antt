use Rattle.amqp_endpoint_links.proofs.Beginnings.{begin-alone, on-ok-as}
use Rattle.amqp_endpoint_links.proofs.beginning.take_begin.Goals as goal

pub returns-clause-step : goal.returns-clause-step
returns-clause-step g c =
    on-ok-as c.on_incoming_begin.result c.for_memory.result c.for_memory.ensures
    (λ t. (begin-alone g.R.LinkRelay.gives c.args.session.now c.on_incoming_begin.new.self c.args.out.now.items c.on_incoming_begin.new.out.items c.args.incoming c.args.begin.now c.requires.idle t).0)
    c.on_incoming_begin.ensures.ok

pub returns-clause-idle : goal.returns-clause-idle
returns-clause-idle g c =
    on-ok-as c.on_incoming_begin.result c.for_memory.result c.for_memory.ensures
    (λ t. (begin-alone g.R.LinkRelay.gives c.args.session.now c.on_incoming_begin.new.self c.args.out.now.items c.on_incoming_begin.new.out.items c.args.incoming c.args.begin.now c.requires.idle t).1)
    c.on_incoming_begin.ensures.ok
