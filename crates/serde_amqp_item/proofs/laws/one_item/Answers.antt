use Rattle.serde_amqp_item.proofs.Forms.{wire_same}
use Rattle.serde_amqp_item.proofs.laws.one_item.Goals as goal

pub returns : goal.returns
returns c = λ m n k a b x y p q g h e. (wire_same m n k a b x y g h e).1 p q
