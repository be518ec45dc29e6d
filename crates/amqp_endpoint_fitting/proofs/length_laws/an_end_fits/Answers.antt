use Rattle.amqp_endpoint_fitting.proofs.Frames.{end_fits}
use Rattle.amqp_endpoint_fitting.proofs.length_laws.an_end_fits.Goals as goal

pub returns : goal.returns
returns c = end_fits
