use Rattle.amqp_endpoint_conversation.proofs.Clearing.{all-cleared, finished-clears, left-clears, nothing-cleared}
use Rattle.amqp_endpoint_conversation.proofs.Clearing.{one-more}
use Rattle.amqp_endpoint_conversation.proofs.laws.sessions_end_with_their_connection.Goals as goal

pub returns-clause-left : goal.returns-clause-left
returns-clause-left g c = λ old new number left sent. left-clears old number new left sent

pub returns-clause-finished : goal.returns-clause-finished
returns-clause-finished g c = λ old new number stood finished. finished-clears old number new stood finished

pub returns-clause-first : goal.returns-clause-first
returns-clause-first g c = λ old new is. nothing-cleared old new is

pub returns-clause-next : goal.returns-clause-next
returns-clause-next g c = λ number old mid new first step. one-more number old mid new first step

pub returns-clause-all : goal.returns-clause-all
returns-clause-all g c = λ old new cleared number. all-cleared old new cleared number
