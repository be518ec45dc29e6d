use Rattle.serde_amqp_item.proofs.Texts.{wide_wire}
use Rattle.serde_amqp_item.proofs.laws.wide_is_wire.Goals as goal

pub returns : goal.returns
returns c = wide_wire
