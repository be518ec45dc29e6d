use Rattle.amqp_link_message.specs.SayingLaws.{text_says}
use Rattle.amqp_link_message.proofs.laws.written_is_said.Goals as goal

pub returns : goal.returns
returns c = text_says
