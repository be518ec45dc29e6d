use Rattle.serde_amqp_item.proofs.FormKinds.{wire_kind}
use Rattle.serde_amqp_item.proofs.laws.constructor_gives_type.Goals as goal

pub returns : goal.returns
returns c = wire_kind
