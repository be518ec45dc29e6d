use Rattle.serde_amqp_values.proofs.SameLaws.{item_decides}
use Rattle.serde_amqp_values.proofs.map_laws.same_items_are_equal.Goals as goal

pub returns : goal.returns
returns c = item_decides
