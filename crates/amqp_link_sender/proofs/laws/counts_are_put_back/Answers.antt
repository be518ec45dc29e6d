use Rattle.amqp_link_sender.proofs.GoingOn.{flow-undone}
use Rattle.amqp_link_sender.proofs.laws.counts_are_put_back.Goals as goal

pub returns : goal.returns
returns c = λ s flow. flow-undone s flow
