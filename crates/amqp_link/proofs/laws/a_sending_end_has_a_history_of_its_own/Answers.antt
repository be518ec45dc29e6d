use Rattle.std.proofs.Common.{rules}
use Rattle.amqp_link.proofs.Ends.{has_history}
use Rattle.amqp_link.proofs.laws.a_sending_end_has_a_history_of_its_own.Goals as goal

pub returns : goal.returns
returns c = has_history
