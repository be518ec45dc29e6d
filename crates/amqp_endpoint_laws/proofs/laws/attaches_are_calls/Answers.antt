use Rattle.amqp_endpoint_laws.proofs.AttachmentsCalled.{deed-first, deed-names}
use Rattle.amqp_endpoint_laws.proofs.laws.attaches_are_calls.Goals as goal

pub returns-clause-named : goal.returns-clause-named
returns-clause-named c = λ old new deed d. deed-names old new deed d

pub returns-clause-goes_first : goal.returns-clause-goes_first
returns-clause-goes_first c = λ old new deed name d is. deed-first old new deed name d is
