use Rattle.amqp_endpoint_conversation.proofs.Goings.{goes-on, rests-on}
use Rattle.amqp_endpoint_conversation.proofs.laws.calls_go_on.Goals as goal

pub returns-clause-goes : goal.returns-clause-goes
returns-clause-goes g c = λ limit old mid new out out_mid out_new a b. goes-on limit old mid new out out_mid out_new a b

pub returns-clause-rests : goal.returns-clause-rests
returns-clause-rests g c = λ old mid new out out_mid out_new a b. rests-on old mid new out out_mid out_new a b
