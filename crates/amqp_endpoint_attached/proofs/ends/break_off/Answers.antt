use Rattle.std.proofs.Common.{sym, ap, ◌∙◌}
use Rattle.amqp_link.specs.declared.end.End.{End}
use Rattle.amqp_link.specs.declared.end.End.TheVariants.{Sender, Receiver}
use Rattle.amqp_link_receiver.specs.State.{ReceiverState}
use Rattle.amqp_link_sender.specs.Sending.{Sending}
use Rattle.amqp_endpoint_attached.specs.Ends.{broken}
use Rattle.amqp_endpoint_attached.proofs.ends.break_off.Goals as goal

pub returns-in-Sender : goal.returns-in-Sender
returns-in-Sender c =
    ap (λ (s : Sending). Sender s) c.on_break.ensures
    ∙ ap (λ (e : End). broken e) (sym c.in-Sender.is ∙ c.end_mut.ensures.value)

pub returns-in-Receiver : goal.returns-in-Receiver
returns-in-Receiver c =
    ap (λ (r : ReceiverState). Receiver r) c.on_break-in-Receiver.ensures
    ∙ ap (λ (e : End). broken e) (sym c.in-Receiver.is ∙ c.end_mut.ensures.value)
