use Rattle.amqp_session_core.proofs.Keeping.{sent-in-place, behind-in-place, disposed-in-place, changed-in-place}
use Rattle.amqp_session_core.proofs.laws.what_its_owner_does_is_in_its_history.Goals as goal

pub returns-clause-transfers : goal.returns-clause-transfers
returns-clause-transfers g c = sent-in-place

pub returns-clause-behind : goal.returns-clause-behind
returns-clause-behind g c = behind-in-place

pub returns-clause-dispositions : goal.returns-clause-dispositions
returns-clause-dispositions g c = disposed-in-place

pub returns-clause-changes : goal.returns-clause-changes
returns-clause-changes g c = changed-in-place
