use Rattle.amqp_session_performatives.specs.CloseLaws.{close_again, close_same}
use Rattle.amqp_session_performatives.proofs.Within.{close_within}
use Rattle.amqp_session_performatives.proofs.laws.close_is_read_back.Goals as goal

pub returns-clause-same : goal.returns-clause-same
returns-clause-same c = close_again

pub returns-clause-apart : goal.returns-clause-apart
returns-clause-apart c = close_same

pub returns-clause-within_caps : goal.returns-clause-within_caps
returns-clause-within_caps c = close_within
