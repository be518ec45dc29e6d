use Rattle.std.proofs.Common.{ℕ, ◌++◌, ap, ◌∙◌}
use Rattle.amqp_endpoint_link_hearing.specs.Transferring.{message_told}
use Rattle.amqp_endpoint_link_hearing.proofs.handing.hand_over.Goals as goal

pub returns-clause-tells : goal.returns-clause-tells
returns-clause-tells c link is =
    c.tell_message.ensures
    ∙ ap
    (λ (k : ℕ). c.args.events.now.items ++ message_told k c.args.given.now c.args.handle c.args.message)
    (c.number_of-link.ensures link is)
