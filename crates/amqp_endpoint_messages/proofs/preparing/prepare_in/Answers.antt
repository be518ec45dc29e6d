use Rattle.amqp_endpoint_messages.specs.Sending.{with_tag}
use Rattle.amqp_endpoint_messages.proofs.Prepared.{shared}
use Rattle.amqp_endpoint_messages.proofs.preparing.prepare_in.Goals as goal

pub returns-in-Ok-clause-ok : goal.returns-in-Ok-clause-ok
returns-in-Ok-clause-ok c =
    shared c.args.session.now c.args.handle (with_tag c.args.tag c.args.message.now) c.in_ok-payload.payload
    c.in-Ok.ready c.make_ready.new.session c.in_ok-payload.ensures.cases c.in-Ok.ensures.ok
