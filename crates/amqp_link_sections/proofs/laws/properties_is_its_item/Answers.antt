use Rattle.amqp_link_sections.specs.PropertiesLaws.{properties_again, properties_same}
use Rattle.amqp_link_sections.specs.SectionLaws.{properties_said}
use Rattle.amqp_link_sections.proofs.laws.properties_is_its_item.Goals as goal

pub returns : goal.returns
returns c = record { read_back = properties_again; told_apart = properties_same; said = properties_said }
