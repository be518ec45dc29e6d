use Rattle.std.proofs.Common.{refl}
use Rattle.amqp_endpoint_conversation.proofs.Goings.{goes-on}
use Rattle.amqp_endpoint_linking.proofs.Hears.{begin-refused, begun-tells, failed-begin}
use Rattle.amqp_endpoint_linking.proofs.hearing.take_begin.Goals as goal

pub returns-in-Ok-clause-ok : goal.returns-in-Ok-clause-ok
returns-in-Ok-clause-ok c =
    begun-tells c.args.talk.now c.args.channel c.args.begin c.args.out.now.items c.hear_begin.new.talk
    c.hear_begin.new.out.items c.args.links.now c.args.links.now c.args.events.now.items
    c.tell_begin.new.events.items c.in-Ok.heard (c.hear_begin.ensures.goes 0) c.in-Ok.ensures.step
    c.tell_begin.ensures refl

-- the session that it names ends by its fault
pub returns-in-Ok-fail-clause-ok : goal.returns-in-Ok-fail-clause-ok
returns-in-Ok-fail-clause-ok c =
    failed-begin c.args.talk.now c.args.channel c.args.begin c.args.out.now.items c.hear_begin.new.talk
    c.hear_begin.new.out.items c.in-Session.number c.in-Session.fault
    (begin-refused c.args.talk.now c.args.channel c.args.begin c.args.out.now.items c.hear_begin.new.talk
    c.hear_begin.new.out.items c.in-Err.refusal c.in-Session.number c.in-Session.fault c.in-Session.is
    c.in-Err.ensures.step)
    c.args.links.now c.fail.new.links c.fail.new.talk c.args.events.now.items c.fail.new.events.items
    c.fail.new.out.items c.in-Ok-fail.ensures.ok

pub returns-in-Ok-fail-clause-goes : goal.returns-in-Ok-fail-clause-goes
returns-in-Ok-fail-clause-goes c limit =
    goes-on limit c.args.talk.now c.hear_begin.new.talk c.fail.new.talk c.args.out.now.items
    c.hear_begin.new.out.items c.fail.new.out.items (c.hear_begin.ensures.goes limit) (c.fail.ensures.goes limit)

pub returns-in-Err-fail-clause-goes : goal.returns-in-Err-fail-clause-goes
returns-in-Err-fail-clause-goes c limit =
    goes-on limit c.args.talk.now c.hear_begin.new.talk c.fail.new.talk c.args.out.now.items
    c.hear_begin.new.out.items c.fail.new.out.items (c.hear_begin.ensures.goes limit) (c.fail.ensures.goes limit)
