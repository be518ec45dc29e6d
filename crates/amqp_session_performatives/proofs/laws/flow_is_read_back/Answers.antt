use Rattle.amqp_session_performatives.specs.FlowLaws.{flow_again, flow_same}
use Rattle.amqp_session_performatives.proofs.Within.{flow_within}
use Rattle.amqp_session_performatives.proofs.laws.flow_is_read_back.Goals as goal

pub returns-clause-same : goal.returns-clause-same
returns-clause-same c = flow_again

pub returns-clause-apart : goal.returns-clause-apart
returns-clause-apart c = flow_same

pub returns-clause-within_caps : goal.returns-clause-within_caps
returns-clause-within_caps c = flow_within
