use Rattle.serde_amqp_item.proofs.Texts.{canon_same}
use Rattle.serde_amqp_item.proofs.laws.canon_is_injective.Goals as goal

pub returns : goal.returns
returns c = canon_same
