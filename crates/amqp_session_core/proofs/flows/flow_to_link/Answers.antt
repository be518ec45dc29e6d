use Rattle.amqp_session_core.proofs.Replying.{link-flowed}
use Rattle.amqp_session_core.proofs.flows.flow_to_link.Goals as goal

pub returns-in-Ok-clause-step : goal.returns-in-Ok-clause-step
returns-in-Ok-clause-step g c = λ other.
    link-flowed g.R.LinkRelay.gives c.args.outgoing.now c.args.routes.now c.args.links.now.slots c.flow_at.new.links.slots c.flow_at.result
    c.args.flow c.in-Ok.flow c.in-Ok.ensures (c.flow_at.ensures.step other)
