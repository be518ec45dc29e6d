use Rattle.serde_amqp_item.proofs.Sizes.{wire_sized}
use Rattle.serde_amqp_item.proofs.laws.size_is_exact.Goals as goal

pub returns : goal.returns
returns c = wire_sized
