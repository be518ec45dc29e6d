use Rattle.amqp_link_sections.specs.AnnotationLaws.{footer_again, footer_same}
use Rattle.amqp_link_sections.specs.SectionLaws.{footer_said}
use Rattle.amqp_link_sections.proofs.laws.footer_is_its_item.Goals as goal

pub returns : goal.returns
returns c = record { read_back = footer_again; told_apart = footer_same; said = footer_said }
