use Rattle.amqp_endpoint_linking.proofs.Calls.{ended-hands}
use Rattle.amqp_endpoint_linking.proofs.calling.end.Goals as goal

pub returns-in-Ok-clause-ok : goal.returns-in-Ok-clause-ok
returns-in-Ok-clause-ok c =
    ended-hands c.args.talk.now c.end.new.talk c.args.out.now.items c.end.new.out.items c.args.links.now
    c.give_back.new.links c.args.number c.in-Ok.session c.give_back.ensures
    (c.is_mapped.ensures.0 c.if-not-is_mapped.false) c.in-Ok.ensures.ok

-- an End without an error is plain
pub returns-in-Ok-clause-goes : goal.returns-in-Ok-clause-goes
returns-in-Ok-clause-goes c limit = c.end.ensures.goes limit (record { error = tt })

pub returns-clause-goes : goal.returns-clause-goes
returns-clause-goes c limit = c.end.ensures.goes limit (record { error = tt })
