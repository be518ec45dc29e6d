use Rattle.amqp_session_performatives.specs.PerformativeLaws.{performative_again, performative_same}
use Rattle.amqp_session_performatives.proofs.Within.{performative_within}
use Rattle.amqp_session_performatives.proofs.laws.performative_is_read_back.Goals as goal

pub returns-clause-same : goal.returns-clause-same
returns-clause-same c = performative_again

pub returns-clause-apart : goal.returns-clause-apart
returns-clause-apart c = performative_same

pub returns-clause-within_caps : goal.returns-clause-within_caps
returns-clause-within_caps c = performative_within
