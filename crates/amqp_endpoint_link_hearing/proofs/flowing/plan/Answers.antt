use Rattle.std.proofs.Common.{sym}
use Rattle.amqp_endpoint_link_hearing.proofs.FlowReadied.{plans-of, without-handle, without-live, without-session}
use Rattle.amqp_endpoint_link_hearing.proofs.flowing.plan.Goals as goal

pub returns-in_default : goal.returns-in_default
returns-in_default c = without-handle c.args.talk.now c.args.channel c.args.flow.now (sym c.in_default.is)

pub returns-in_default-reached : goal.returns-in_default-reached
returns-in_default-reached c =
    without-session c.args.talk.now c.args.channel c.args.flow.now c.in_default-reached.ensures

pub returns-in_default-live : goal.returns-in_default-live
returns-in_default-live c =
    without-live c.args.talk.now c.args.channel c.args.flow.now c.in-Some-reached.number c.in-Some-reached.ensures
    c.in_default-live.ensures

pub returns : goal.returns
returns c =
    plans-of c.args.talk.now c.args.channel c.args.flow.now c.in-Some-reached.number c.in-Some-reached.ensures
    c.in-Some.handle (sym c.in-Some.is) c.in-Some-live.session.now c.deref.result.now c.in-Some-live.ensures
    c.deref.ensures c.said_of_link.result c.said_of_link.ensures c.plan_in.result c.plan_in.ensures
