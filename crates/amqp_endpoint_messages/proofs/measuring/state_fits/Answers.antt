use Rattle.amqp_endpoint_messages.specs.Longest.{longest}
use Rattle.amqp_endpoint_messages.proofs.Sizes.{so-tested}
use Rattle.amqp_endpoint_messages.proofs.measuring.state_fits.Goals as goal

pub returns : goal.returns
returns c channel =
    so-tested c.args.limit channel (longest c.args.state.now) c.fits_text.result c.ranges.limit.fits
    c.fits_text.ensures
