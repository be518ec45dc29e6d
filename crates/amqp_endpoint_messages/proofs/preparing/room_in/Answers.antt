use Rattle.amqp_endpoint_messages.proofs.Prepared.{none_refuses, refusal_there, room_there}
use Rattle.amqp_endpoint_messages.proofs.preparing.room_in.Goals as goal

pub returns-in_default-clause-err : goal.returns-in_default-clause-err
returns-in_default-clause-err c =
    none_refuses c.args.session.now c.args.handle c.args.tag.now c.args.size c.in_default.ensures

pub returns-clause-ok : goal.returns-clause-ok
returns-clause-ok c =
    room_there c.args.session.now c.args.handle c.args.tag.now c.args.size c.in-Some.link.now c.in-Some.ensures
    c.room_of.result c.room_of.ensures.ok

pub returns-clause-err : goal.returns-clause-err
returns-clause-err c =
    refusal_there c.args.session.now c.args.handle c.args.tag.now c.args.size c.in-Some.link.now c.in-Some.ensures
    c.room_of.result c.room_of.ensures.err
