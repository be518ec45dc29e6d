use Rattle.amqp_endpoint_conversation.proofs.Calls.{told-goes, told-rests}
use Rattle.amqp_endpoint_conversation.proofs.laws.an_end_told_goes_on.Goals as goal

pub returns-clause-goes : goal.returns-clause-goes
returns-clause-goes g c = λ limit number old new told out stepped. told-goes limit number old new told out stepped

pub returns-clause-rests : goal.returns-clause-rests
returns-clause-rests g c = λ number old new told out stepped. told-rests number old new told out stepped
