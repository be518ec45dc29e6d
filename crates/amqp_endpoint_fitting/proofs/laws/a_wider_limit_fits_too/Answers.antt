use Rattle.std.proofs.lemmas.List.Elements.{All-weaker}
use Rattle.amqp_endpoint_fitting.specs.Fits.{FrameFits}
use Rattle.amqp_endpoint_fitting.proofs.Lengths.{wider-frame, wider-queues}
use Rattle.amqp_endpoint_fitting.proofs.laws.a_wider_limit_fits_too.Goals as goal

pub returns-clause-queues : goal.returns-clause-queues
returns-clause-queues c = λ channel limit wider queues fit least. wider-queues limit wider least channel queues fit

pub returns-clause-frames : goal.returns-clause-frames
returns-clause-frames c = λ limit wider frames fit least.
    All-weaker (FrameFits limit) (FrameFits wider) (wider-frame limit wider least) frames fit
