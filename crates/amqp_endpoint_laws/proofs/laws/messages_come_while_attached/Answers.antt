use Rattle.amqp_endpoint_laws.proofs.HandedBy.{deed-hands}
use Rattle.amqp_endpoint_laws.proofs.laws.messages_come_while_attached.Goals as goal

pub returns : goal.returns
returns c = λ old new deed link d. deed-hands deed old new link d
