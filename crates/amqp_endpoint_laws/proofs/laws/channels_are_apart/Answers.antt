use Rattle.amqp_endpoint_laws.proofs.SessionsKept.{own-channels}
use Rattle.amqp_endpoint_laws.proofs.laws.channels_are_apart.Goals as goal

pub returns : goal.returns
returns c = λ sessions settings calls told end new run. own-channels sessions settings calls told end new run
