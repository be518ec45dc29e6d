use Rattle.amqp_link_message.specs.RoundLaws.{message_read}
use Rattle.amqp_link_message.proofs.laws.written_is_read.Goals as goal

pub returns : goal.returns
returns g c = message_read g.B.ReadBody.takes g.B.ReadBody.items g.met.B.RoundTripBody.again
