use Rattle.amqp_session_performatives.specs.EndLaws.{end_again, end_same}
use Rattle.amqp_session_performatives.proofs.Within.{end_within}
use Rattle.amqp_session_performatives.proofs.laws.end_is_read_back.Goals as goal

pub returns-clause-same : goal.returns-clause-same
returns-clause-same c = end_again

pub returns-clause-apart : goal.returns-clause-apart
returns-clause-apart c = end_same

pub returns-clause-within_caps : goal.returns-clause-within_caps
returns-clause-within_caps c = end_within
