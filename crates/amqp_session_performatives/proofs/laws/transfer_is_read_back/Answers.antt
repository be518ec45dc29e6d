use Rattle.amqp_session_performatives.specs.TransferLaws.{transfer_again, transfer_same}
use Rattle.amqp_session_performatives.proofs.Within.{transfer_within}
use Rattle.amqp_session_performatives.proofs.laws.transfer_is_read_back.Goals as goal

pub returns-clause-same : goal.returns-clause-same
returns-clause-same c = transfer_again

pub returns-clause-apart : goal.returns-clause-apart
returns-clause-apart c = transfer_same

pub returns-clause-within_caps : goal.returns-clause-within_caps
returns-clause-within_caps c = transfer_within
