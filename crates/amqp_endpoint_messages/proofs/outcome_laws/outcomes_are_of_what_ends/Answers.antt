use Rattle.amqp_endpoint_messages.proofs.EndedTold.{told-ends}
use Rattle.amqp_endpoint_messages.proofs.outcome_laws.outcomes_are_of_what_ends.Goals as goal

pub returns : goal.returns
returns c = λ old new it echoes reached none t a. told-ends it old new echoes reached none t a
