use Rattle.amqp_endpoint_fitting.proofs.Frames.{begin_fits}
use Rattle.amqp_endpoint_fitting.proofs.length_laws.a_begin_fits.Goals as goal

pub returns : goal.returns
returns c = begin_fits
