use Rattle.serde_amqp_item.proofs.Texts.{canon_wire}
use Rattle.serde_amqp_item.proofs.laws.canon_is_wire.Goals as goal

pub returns : goal.returns
returns c = canon_wire
