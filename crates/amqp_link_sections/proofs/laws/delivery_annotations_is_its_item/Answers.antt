use Rattle.amqp_link_sections.specs.AnnotationLaws.{delivery_annotations_again, delivery_annotations_same}
use Rattle.amqp_link_sections.specs.SectionLaws.{delivery_annotations_said}
use Rattle.amqp_link_sections.proofs.laws.delivery_annotations_is_its_item.Goals as goal

pub returns : goal.returns
returns c = record { read_back = delivery_annotations_again; told_apart = delivery_annotations_same; said = delivery_annotations_said }
