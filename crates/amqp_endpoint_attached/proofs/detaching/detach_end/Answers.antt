use Rattle.std.proofs.Common.{Some, sym, ap, ◌∙◌}
use Rattle.amqp_link.specs.declared.end.End.{End}
use Rattle.amqp_endpoint_attached.specs.Detaching.{is_there}
use Rattle.amqp_endpoint_attached.proofs.Detached.{sender_end, receiver_end}
use Rattle.amqp_endpoint_attached.proofs.detaching.detach_end.Goals as goal

pub detach_sender-requires : goal.detach_sender-requires
detach_sender-requires c =
    ap (λ (e : End). is_there (Some e)) (sym c.in-Sender.is ∙ c.end_mut.ensures.value) ∙ c.requires

pub detach_receiver-requires : goal.detach_receiver-requires
detach_receiver-requires c =
    ap (λ (e : End). is_there (Some e)) (sym c.in-Receiver.is ∙ c.end_mut.ensures.value) ∙ c.requires

pub returns-in-Sender : goal.returns-in-Sender
returns-in-Sender c =
    sender_end c.args.link.now c.in-Sender.sender c.detach_sender.new.sender c.args.closed
    (sym c.end_mut.ensures.value ∙ c.in-Sender.is) c.detach_sender.ensures

pub returns-in-Receiver : goal.returns-in-Receiver
returns-in-Receiver c =
    receiver_end c.args.link.now c.in-Receiver.receiver c.detach_receiver.new.receiver c.args.closed
    (sym c.end_mut.ensures.value ∙ c.in-Receiver.is) c.detach_receiver.ensures
