use Rattle.amqp_link_receiver.proofs.Refusing.{counts-alone}
use Rattle.amqp_link_receiver.proofs.laws.a_refused_transfer_changes_counts_alone.Goals as goal

pub returns : goal.returns
returns c = λ attachment s t payload error is. counts-alone attachment s t payload error is
