use Rattle.serde_amqp_item.proofs.Constructors.{code_of_byte, byte_of_code}
use Rattle.serde_amqp_item.proofs.laws.constructor_has_one_byte.Goals as goal

pub returns : goal.returns
returns c = record { forward = code_of_byte; back = byte_of_code }
