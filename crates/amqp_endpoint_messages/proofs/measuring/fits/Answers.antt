use Rattle.amqp_endpoint_messages.proofs.Sizes.{so-tested}
use Rattle.amqp_endpoint_messages.proofs.measuring.fits.Goals as goal

pub returns : goal.returns
returns c = so-tested c.args.limit 0 c.args.disposition.now c.fits_text.result c.ranges.limit.fits c.fits_text.ensures
