use Rattle.std.proofs.Common.{Some, sym, ap, ◌∙◌}
use Rattle.amqp_link.specs.declared.end.End.{End}
use Rattle.amqp_endpoint_attached.specs.Receiving.{is_receiving}
use Rattle.amqp_endpoint_attached.proofs.Receivers.{gives_by}
use Rattle.amqp_endpoint_attached.proofs.receiving.give.Goals as goal

pub give_by-requires-clause-attached : goal.give_by-requires-clause-attached
give_by-requires-clause-attached c =
    ap (λ (e : End). is_receiving (Some e)) (sym c.in-Receiver.is ∙ c.end_mut.ensures.value) ∙ c.requires.there

pub returns : goal.returns
returns c =
    gives_by c.args.link.now c.in-Receiver.receiver c.give_by.new.receiver c.args.credit c.give_by.result
    (sym c.end_mut.ensures.value ∙ c.in-Receiver.is) c.give_by.ensures.told c.give_by.ensures.moved
