use Rattle.amqp_session_performatives.specs.DispositionLaws.{disposition_again, disposition_same}
use Rattle.amqp_session_performatives.proofs.Within.{disposition_within}
use Rattle.amqp_session_performatives.proofs.laws.disposition_is_read_back.Goals as goal

pub returns-clause-same : goal.returns-clause-same
returns-clause-same c = disposition_again

pub returns-clause-apart : goal.returns-clause-apart
returns-clause-apart c = disposition_same

pub returns-clause-within_caps : goal.returns-clause-within_caps
returns-clause-within_caps c = disposition_within
