use Rattle.std.proofs.Common.{Option, sym, subst}
use Rattle.std.specs.Prelude.{OnOk}
use Rattle.amqp_endpoint_links.specs.declared.session.SessionFlow.{SessionFlow}
use Rattle.amqp_endpoint_links.specs.Beginning.{TakesKept}
use Rattle.amqp_endpoint_links.proofs.Beginnings.{flow-kept}
use Rattle.amqp_endpoint_links.proofs.beginning.take_flow.Goals as goal

pub returns : goal.returns
returns g c =
    subst (λ (flow : Option SessionFlow). OnOk c.for_memory.result (TakesKept g.R.LinkRelay.gives c.args.session.now flow c.on_incoming_flow.new.self)) (sym c.in-Some.is)
    (flow-kept g.R.LinkRelay.gives c.args.session.now c.on_incoming_flow.new.self c.args.out.now.items c.on_incoming_flow.new.out.items c.in-Some.flow
    c.into_flow.result c.on_incoming_flow.result c.for_memory.result c.into_flow.ensures c.for_memory.ensures c.requires.idle c.on_incoming_flow.ensures.step)
