use Rattle.amqp_link_sections.specs.AnnotationLaws.{message_annotations_again, message_annotations_same}
use Rattle.amqp_link_sections.specs.SectionLaws.{message_annotations_said}
use Rattle.amqp_link_sections.proofs.laws.message_annotations_is_its_item.Goals as goal

pub returns : goal.returns
returns c = record { read_back = message_annotations_again; told_apart = message_annotations_same; said = message_annotations_said }
