use Rattle.std.proofs.Common.{refl}
use Rattle.amqp_endpoint_conversation.proofs.Calls.{none-within}
use Rattle.amqp_endpoint.proofs.linked.LinkedSessionsSessionRelay.leave.Goals as goal

pub returns-clause-within : goal.returns-clause-within
returns-clause-within c limit = none-within limit c.leave.new.talk c.leave.ensures.none

pub returns-clause-closes : goal.returns-clause-closes
returns-clause-closes c = (c.leave.ensures.left, record { sent = refl; given = refl })
