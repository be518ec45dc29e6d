use Rattle.amqp_link_message.specs.RoundLaws.{written_once}
use Rattle.amqp_link_message.proofs.laws.read_is_written.Goals as goal

pub returns : goal.returns
returns g c = written_once g.B.ReadBody.takes g.B.WriteBody.items g.B.ReadBody.items g.met.B.ReadBody.of_body g.met.B.ReadBody.decided g.met.B.RoundTripBody.same g.met.B.RoundTripBody.again
