use Rattle.amqp_endpoint_link_hearing.proofs.Readies.{prepared}
use Rattle.amqp_endpoint_link_hearing.proofs.detaching.make_ready.Goals as goal

pub returns : goal.returns
returns c =
    prepared c.args.limit c.args.talk.now c.args.channel c.args.detach.now c.in-Some.number c.in-Some-live.session.now
    c.deref.result.now c.in-Some.ensures c.in-Some-live.ensures c.deref.ensures c.make_ready_in.result
    c.make_ready_in.ensures
