use Rattle.amqp_endpoint_messages.proofs.EndedTold.{told-all}
use Rattle.amqp_endpoint_messages.proofs.outcome_laws.a_disposition_leaves_none_untold.Goals as goal

pub returns : goal.returns
returns c = λ old new it echoes reached none t a. told-all it old new echoes reached none t a
