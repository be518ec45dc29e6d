use Rattle.std.proofs.Common.{refl}
use Rattle.amqp_endpoint_conversation.proofs.Calls.{none-within}
use Rattle.amqp_endpoint.proofs.linked.LinkedSessionsSessionRelay.finish.Goals as goal

pub returns-clause-within : goal.returns-clause-within
returns-clause-within c limit = none-within limit c.finish.new.talk c.finish.ensures.none

pub returns-clause-finishes : goal.returns-clause-finishes
returns-clause-finishes c = (c.finish.ensures.finished, record { sent = refl; given = refl })
