use Rattle.amqp_endpoint_fitting.proofs.Frames.{larger_fits}
use Rattle.amqp_endpoint_fitting.proofs.length_laws.a_larger_limit_fits_too.Goals as goal

pub returns : goal.returns
returns c = larger_fits
