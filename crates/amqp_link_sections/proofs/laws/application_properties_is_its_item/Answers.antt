use Rattle.amqp_link_sections.specs.AnnotationLaws.{application_properties_again, application_properties_same}
use Rattle.amqp_link_sections.specs.SectionLaws.{application_properties_said}
use Rattle.amqp_link_sections.proofs.laws.application_properties_is_its_item.Goals as goal

pub returns : goal.returns
returns c = record { read_back = application_properties_again; told_apart = application_properties_same; said = application_properties_said }
