use Rattle.amqp_link_unsettled.specs.Listing.{FitsFrame}
use Rattle.amqp_link_unsettled.proofs.listing.fits_frame.Goals as goal

pub returns : goal.returns
unfolding FitsFrame
returns c = c.fits_text.ensures
