use Rattle.amqp_endpoint_attached.proofs.Detached.{detach_replied}
use Rattle.amqp_endpoint_attached.proofs.There.{is_there_in}
use Rattle.amqp_endpoint_attached.proofs.detaching.answer_detach.Goals as goal

pub send_detach-requires-clause-there : goal.send_detach-requires-clause-there
send_detach-requires-clause-there c = is_there_in c.args.session.now.session c.args.handle c.requires.there

pub returns-clause-reply : goal.returns-clause-reply
returns-clause-reply c =
    detach_replied c.args.session.now c.args.handle c.args.closed c.args.error c.send_detach.new.session
    c.own_detach-answer.result c.args.out.now.items c.send_detach.new.out.items c.own_detach-answer.ensures
    c.send_detach.ensures.sent
