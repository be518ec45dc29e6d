use Rattle.amqp_endpoint_link_hearing.proofs.Lent.{none-lent}
use Rattle.amqp_endpoint_link_hearing.proofs.transferring.closing_of.Goals as goal

pub unreachable-requires : goal.unreachable-requires
unreachable-requires c =
    absurd (none-lent c.args.talk.now c.args.session c.args.handle c.in_default.ensures c.requires)
