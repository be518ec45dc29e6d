use Rattle.amqp_session_performatives.specs.BeginLaws.{begin_again, begin_same}
use Rattle.amqp_session_performatives.proofs.Within.{begin_within}
use Rattle.amqp_session_performatives.proofs.laws.begin_is_read_back.Goals as goal

pub returns-clause-same : goal.returns-clause-same
returns-clause-same c = begin_again

pub returns-clause-apart : goal.returns-clause-apart
returns-clause-apart c = begin_same

pub returns-clause-within_caps : goal.returns-clause-within_caps
returns-clause-within_caps c = begin_within
