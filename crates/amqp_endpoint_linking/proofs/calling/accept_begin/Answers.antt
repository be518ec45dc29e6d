use Rattle.amqp_endpoint_linking.proofs.Calls.{accepted-hands}
use Rattle.amqp_endpoint_linking.proofs.calling.accept_begin.Goals as goal

pub returns-in-Ok-clause-ok : goal.returns-in-Ok-clause-ok
returns-in-Ok-clause-ok c =
    accepted-hands c.args.talk.now c.accept.new.talk c.args.out.now.items c.accept.new.out.items c.args.channel
    c.in-Ok.number c.in-Ok.ensures.ok
