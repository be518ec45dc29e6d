use Rattle.std.proofs.Common.{refl}
use Rattle.amqp_endpoint_links.proofs.AtOnce.{taken_with_number}
use Rattle.amqp_endpoint_links.proofs.numbered.NumberedLinkRelay.takes_at_once.Goals as goal

pub returns : goal.returns
returns g c =
    taken_with_number g.R.LinkRelay.gives g.R.LinkRelay.tells g.R.LinkRelay.names _ _
    c.args.transfer.now c.args.payload.now c.args.message c.if-not-takes_at_once.ensures refl
