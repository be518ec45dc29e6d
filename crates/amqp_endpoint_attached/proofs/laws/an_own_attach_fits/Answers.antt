use Rattle.amqp_endpoint_attached.proofs.Fitting.{announced_fits}
use Rattle.amqp_endpoint_attached.proofs.laws.an_own_attach_fits.Goals as goal

pub returns : goal.returns
returns c = announced_fits
