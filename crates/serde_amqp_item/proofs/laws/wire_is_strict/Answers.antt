use Rattle.serde_amqp_item.proofs.Forms.{wire_strict}
use Rattle.serde_amqp_item.proofs.laws.wire_is_strict.Goals as goal

pub returns : goal.returns
returns c = wire_strict
