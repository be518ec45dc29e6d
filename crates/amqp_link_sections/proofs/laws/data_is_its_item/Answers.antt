use Rattle.amqp_link_sections.specs.BodyLaws.{data_again, data_same}
use Rattle.amqp_link_sections.specs.SectionLaws.{data_said}
use Rattle.amqp_link_sections.proofs.laws.data_is_its_item.Goals as goal

pub returns : goal.returns
returns c = record { read_back = data_again; told_apart = data_same; said = data_said }
