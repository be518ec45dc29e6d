use Rattle.std.proofs.Common.{Bool, ap, ◌∙◌}
use Rattle.amqp_link_receiver.specs.Disposing.{disposition_of}
use Rattle.amqp_endpoint_messages.specs.Longest.{disposition_fits}
use Rattle.amqp_endpoint_messages.proofs.Sizes.{so-tested}
use Rattle.amqp_endpoint_messages.proofs.measuring.delivery_fits.Goals as goal

pub returns : goal.returns
returns c =
    so-tested c.args.limit 0 (disposition_of c.args.delivery.now.number c.settles-at_once.result c.args.state.now)
    c.fits_text.result c.ranges.limit.fits c.fits_text.ensures
    ∙ ap (λ (b : Bool). disposition_fits c.args.limit (disposition_of c.args.delivery.now.number b c.args.state.now))
    c.settles-at_once.ensures
