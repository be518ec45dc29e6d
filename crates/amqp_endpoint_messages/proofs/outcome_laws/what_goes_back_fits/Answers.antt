use Rattle.amqp_endpoint_messages.proofs.Lengths.{going-fit}
use Rattle.amqp_endpoint_messages.proofs.outcome_laws.what_goes_back_fits.Goals as goal

pub returns : goal.returns
returns c = λ limit state fields runs least. going-fit limit state fields runs least
