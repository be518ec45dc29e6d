use Rattle.std.proofs.Common.{◌++◌, sym, ap, ◌∙◌}
use Rattle.amqp_link.specs.declared.end.End.{End}
use Rattle.amqp_link.specs.declared.end.End.TheVariants.{Sender}
use Rattle.amqp_link_sender.specs.Sending.{Sending}
use Rattle.amqp_endpoint_messages.specs.Reached.{end_behind, end_told}
use Rattle.amqp_endpoint_messages.proofs.reached.tell_first.Goals as goal

pub returns-in-Sender-clause-told : goal.returns-in-Sender-clause-told
returns-in-Sender-clause-told c =
    c.tell_first_of.ensures.told
    ∙ ap (λ (e : End). c.args.events.now.items ++ end_told c.args.number c.args.tag.now e)
    (sym c.in-Sender.is ∙ c.end_mut.ensures.value)

pub returns-in-Sender-clause-behind : goal.returns-in-Sender-clause-behind
returns-in-Sender-clause-behind c =
    ap (λ (s : Sending). Sender s) c.tell_first_of.ensures.behind
    ∙ ap (λ (e : End). end_behind c.args.tag.now e) (sym c.in-Sender.is ∙ c.end_mut.ensures.value)
