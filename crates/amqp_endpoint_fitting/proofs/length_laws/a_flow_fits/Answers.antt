use Rattle.amqp_endpoint_fitting.proofs.Frames.{flow_fits}
use Rattle.amqp_endpoint_fitting.proofs.length_laws.a_flow_fits.Goals as goal

pub returns : goal.returns
returns c = flow_fits
