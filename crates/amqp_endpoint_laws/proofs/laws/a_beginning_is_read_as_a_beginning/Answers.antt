use Rattle.amqp_endpoint_laws.proofs.TakenRead.{begins-said}
use Rattle.amqp_endpoint_laws.proofs.laws.a_beginning_is_read_as_a_beginning.Goals as goal

pub returns : goal.returns
returns c = λ name others first later. begins-said name others first later
