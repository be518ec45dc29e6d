use Rattle.amqp_endpoint_conversation.proofs.Calls.{none-within, wider-within}
use Rattle.amqp_endpoint_conversation.proofs.laws.what_waits_fits.Goals as goal

pub returns-clause-wider : goal.returns-clause-wider
returns-clause-wider g c = λ limit wider talk within more. wider-within limit wider talk within more

pub returns-clause-none : goal.returns-clause-none
returns-clause-none g c = λ limit talk none. none-within limit talk none
