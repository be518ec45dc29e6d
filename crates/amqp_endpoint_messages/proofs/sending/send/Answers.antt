use Rattle.amqp_endpoint_messages.specs.Sending.{with_tag}
use Rattle.amqp_endpoint_messages.proofs.AtOnce.{answered_after, kept_after}
use Rattle.amqp_endpoint_messages.proofs.sending.send.Goals as goal

pub returns-in-None-clause-answer : goal.returns-in-None-clause-answer
returns-in-None-clause-answer c =
    answered_after c.args.session.now c.send_at_once.new.session c.args.out.now.items c.send_at_once.new.out.items
    c.in-None.ensures.answer c.args.limit c.args.handle (with_tag c.args.tag c.args.message.now) c.send_cut.result
    c.send_cut.new.session c.send_cut.new.out.items c.send_cut.ensures.answer

pub returns-in-None-clause-kept : goal.returns-in-None-clause-kept
returns-in-None-clause-kept c =
    kept_after c.args.session.now c.send_at_once.new.session c.args.out.now.items c.send_at_once.new.out.items
    c.in-None.ensures.answer c.send_cut.result c.send_cut.new.session c.send_cut.new.out.items
    c.send_cut.ensures.kept
