use Rattle.amqp_endpoint_messages.proofs.SentOn.{credit-of}
use Rattle.amqp_endpoint_messages.proofs.sending_on.take_credit.Goals as goal

pub commit_send_on-requires : goal.commit_send_on-requires
commit_send_on-requires c =
    credit-of 1 c.args.session.now c.args.handle c.in-Some.link.now c.in-Some.ensures.value c.requires
