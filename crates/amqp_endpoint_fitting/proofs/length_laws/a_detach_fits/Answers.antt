use Rattle.amqp_endpoint_fitting.proofs.Frames.{detach_fits}
use Rattle.amqp_endpoint_fitting.proofs.length_laws.a_detach_fits.Goals as goal

pub returns : goal.returns
returns c = detach_fits
