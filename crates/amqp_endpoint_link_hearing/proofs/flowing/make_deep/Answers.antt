use Rattle.std.proofs.Common.{refl}
use Rattle.amqp_endpoint_link_hearing.proofs.FlowReadied.{deep-closing}
use Rattle.amqp_endpoint_link_hearing.proofs.flowing.make_deep.Goals as goal

pub returns : goal.returns
returns c =
    deep-closing c.args.session.now c.args.number c.args.handle c.args.count c.in_ok-closing.closing
    (record c.in_ok-closing.closing { place = c.in_ok-place.place }) c.in_ok-place.place refl c.in_ok-closing.ensures
    c.in_ok-place.ensures
