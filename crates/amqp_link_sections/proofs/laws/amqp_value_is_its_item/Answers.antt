use Rattle.amqp_link_sections.specs.BodyLaws.{amqp_value_again, amqp_value_same}
use Rattle.amqp_link_sections.specs.SectionLaws.{amqp_value_said}
use Rattle.amqp_link_sections.proofs.laws.amqp_value_is_its_item.Goals as goal

pub returns : goal.returns
returns g c = record {
  read_back = amqp_value_again g.T.Deserialize.take g.T.Deserialize.item g.met.T.RoundTrip.again;
  told_apart = amqp_value_same g.T.Deserialize.item g.met.T.Faithful.faithful;
  said = amqp_value_said g.T.Deserialize.take;
}
