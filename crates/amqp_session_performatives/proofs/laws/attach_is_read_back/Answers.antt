use Rattle.amqp_session_performatives.specs.AttachLaws.{attach_again, attach_same}
use Rattle.amqp_session_performatives.proofs.Within.{attach_within}
use Rattle.amqp_session_performatives.proofs.laws.attach_is_read_back.Goals as goal

pub returns-clause-same : goal.returns-clause-same
returns-clause-same c = attach_again

pub returns-clause-apart : goal.returns-clause-apart
returns-clause-apart c = attach_same

pub returns-clause-within_caps : goal.returns-clause-within_caps
returns-clause-within_caps c = attach_within
