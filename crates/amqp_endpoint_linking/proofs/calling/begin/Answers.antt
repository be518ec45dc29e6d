use Rattle.amqp_endpoint_linking.proofs.Calls.{begun-hands}
use Rattle.amqp_endpoint_linking.proofs.calling.begin.Goals as goal

pub returns-in-Ok-clause-ok : goal.returns-in-Ok-clause-ok
returns-in-Ok-clause-ok c =
    begun-hands c.args.talk.now c.begin.new.talk c.args.out.now.items c.begin.new.out.items c.in-Ok.number
    c.in-Ok.ensures.ok
