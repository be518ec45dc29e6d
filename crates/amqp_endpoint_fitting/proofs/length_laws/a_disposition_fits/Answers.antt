use Rattle.amqp_endpoint_fitting.proofs.Frames.{disposition_fits}
use Rattle.amqp_endpoint_fitting.proofs.length_laws.a_disposition_fits.Goals as goal

pub returns : goal.returns
returns c = disposition_fits
