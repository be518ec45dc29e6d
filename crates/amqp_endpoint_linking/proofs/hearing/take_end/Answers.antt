use Rattle.amqp_endpoint_linking.proofs.Hears.{ended-tells}
use Rattle.amqp_endpoint_linking.proofs.hearing.take_end.Goals as goal

pub returns-in-Ok-clause-ok : goal.returns-in-Ok-clause-ok
returns-in-Ok-clause-ok c =
    ended-tells c.args.talk.now c.args.channel c.args.end c.args.out.now.items c.hear_end.new.talk
    c.hear_end.new.out.items c.args.links.now c.give_back_if.new.links c.args.events.now.items
    c.tell_end.new.events.items c.in-Ok.heard c.is_told-told.result (c.hear_end.ensures.goes 0) c.in-Ok.ensures.step
    c.is_told-told.ensures c.give_back_if.ensures c.tell_end.ensures
