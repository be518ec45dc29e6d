use Rattle.std.proofs.Common.{Some, sym, ap, ◌∙◌}
use Rattle.amqp_link.specs.declared.end.End.{End}
use Rattle.amqp_endpoint_attached.specs.Receiving.{is_receiving}
use Rattle.amqp_endpoint_attached.proofs.Receivers.{drains_by}
use Rattle.amqp_endpoint_attached.proofs.receiving.want_drain.Goals as goal

pub drain_by-requires : goal.drain_by-requires
drain_by-requires c =
    ap (λ (e : End). is_receiving (Some e)) (sym c.in-Receiver.is ∙ c.end_mut.ensures.value) ∙ c.requires

pub returns : goal.returns
returns c =
    drains_by c.args.link.now c.in-Receiver.receiver c.drain_by.new.receiver c.drain_by.result
    (sym c.end_mut.ensures.value ∙ c.in-Receiver.is) c.drain_by.ensures.told c.drain_by.ensures.moved
