use Rattle.amqp_link_sections.specs.HeaderLaws.{header_again, header_same}
use Rattle.amqp_link_sections.specs.SectionLaws.{header_said}
use Rattle.amqp_link_sections.proofs.laws.header_is_its_item.Goals as goal

pub returns : goal.returns
returns c = record { read_back = header_again; told_apart = header_same; said = header_said }
