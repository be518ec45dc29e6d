use Rattle.amqp_link_message.specs.OneReading.{message_once}
use Rattle.amqp_link_message.proofs.laws.payload_is_read_in_one_way.Goals as goal

pub returns : goal.returns
returns g c = message_once g.B.ReadBody.takes g.met.B.ReadBody.of_body g.met.B.ReadBody.decided
