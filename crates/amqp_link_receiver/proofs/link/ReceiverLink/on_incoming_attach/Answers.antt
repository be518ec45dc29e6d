use Rattle.amqp_link_receiver.proofs.Planning.{kept}
use Rattle.amqp_link_receiver.proofs.link.ReceiverLink.on_incoming_attach.Goals as goal

pub returns-in-Err : goal.returns-in-Err
returns-in-Err c = kept c.args.self.now c.args.attach.now c.in-Err.ensures.err
