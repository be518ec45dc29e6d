use Rattle.std.proofs.Common.{subst}
use Rattle.amqp_endpoint_attached.specs.Linked.{LinksIn}
use Rattle.amqp_endpoint_messages.specs.Sending.{Commits}
use Rattle.amqp_endpoint_messages.proofs.Handing.{handed}
use Rattle.amqp_endpoint_messages.proofs.sending.hand_over.Goals as goal

pub returns-clause-ok : goal.returns-clause-ok
returns-clause-ok c =
    let P : LinksIn → Type 0 = λ s. Commits s c.args.handle c.args.cut.entry c.commit_in.new.session in
    handed c.args.session.now c.transfer.new.session c.commit_in.new.session c.args.handle c.args.out.now.items
    c.transfer.new.out.items c.args.cut c.is_none-settled.result c.in_ok-transfer.ensures.ok
    (subst P c.give_batch_back.ensures c.commit_in.ensures) c.is_none-settled.ensures
