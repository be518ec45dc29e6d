use Rattle.amqp_endpoint_link_hearing.proofs.Sizes.{detach-fits-so}
use Rattle.amqp_endpoint_link_hearing.proofs.leaving.fits.Goals as goal

pub returns : goal.returns
returns c =
    detach-fits-so c.args.limit c.ranges.limit.fits c.args._channel c.args.detach.now c.fits_text.result
    c.fits_text.ensures
