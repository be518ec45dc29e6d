use Rattle.amqp_endpoint_fitting.proofs.AttachFrames.{attach-fits}
use Rattle.amqp_endpoint_fitting.proofs.attach_lengths.an_attach_fits.Goals as goal

pub returns : goal.returns
returns c = λ limit channel attach least fit. attach-fits limit channel attach least fit
