use Rattle.amqp_session_performatives.specs.OpenLaws.{open_again, open_same}
use Rattle.amqp_session_performatives.proofs.Within.{open_within}
use Rattle.amqp_session_performatives.proofs.laws.open_is_read_back.Goals as goal

pub returns-clause-same : goal.returns-clause-same
returns-clause-same c = open_again

pub returns-clause-apart : goal.returns-clause-apart
returns-clause-apart c = open_same

pub returns-clause-within_caps : goal.returns-clause-within_caps
returns-clause-within_caps c = open_within
