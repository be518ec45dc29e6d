use Rattle.amqp_link_sections.specs.BodyLaws.{amqp_sequence_again, amqp_sequence_same}
use Rattle.amqp_link_sections.specs.SectionLaws.{amqp_sequence_said}
use Rattle.amqp_link_sections.proofs.laws.amqp_sequence_is_its_item.Goals as goal

pub returns : goal.returns
returns g c = record {
  read_back = amqp_sequence_again g.T.Deserialize.take g.T.Deserialize.item g.met.T.RoundTrip.again;
  told_apart = amqp_sequence_same g.T.Deserialize.item g.met.T.Faithful.faithful;
  said = amqp_sequence_said g.T.Deserialize.take;
}
