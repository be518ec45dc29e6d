use Rattle.amqp_session_performatives.specs.DetachLaws.{detach_again, detach_same}
use Rattle.amqp_session_performatives.proofs.Within.{detach_within}
use Rattle.amqp_session_performatives.proofs.laws.detach_is_read_back.Goals as goal

pub returns-clause-same : goal.returns-clause-same
returns-clause-same c = detach_again

pub returns-clause-apart : goal.returns-clause-apart
returns-clause-apart c = detach_same

pub returns-clause-within_caps : goal.returns-clause-within_caps
returns-clause-within_caps c = detach_within
