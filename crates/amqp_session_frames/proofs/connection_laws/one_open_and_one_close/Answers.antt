use Rattle.amqp_session_frames.proofs.HandingOut.{one_open, one_close}
use Rattle.amqp_session_frames.proofs.connection_laws.one_open_and_one_close.Goals as goal

pub returns-clause-opens : goal.returns-clause-opens
returns-clause-opens c = one_open

pub returns-clause-closes : goal.returns-clause-closes
returns-clause-closes c = one_close
