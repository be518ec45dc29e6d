use Rattle.amqp_link_sender.proofs.GoingOn.{goes-next}
use Rattle.amqp_link_sender.proofs.laws.what_goes_on_goes_one_by_one.Goals as goal

pub returns : goal.returns
returns c = λ s p ps is. let goes = goes-next s p ps is in (goes.credit, goes.next, goes.behind)
