use Rattle.std.proofs.Common.{◌≡◌, Some, refl}
use Rattle.amqp_link_sections.specs.Section.{section_code, section_of}
use Rattle.amqp_link_sections.specs.declared.section.Section.{Section}
use Rattle.amqp_link_sections.specs.declared.section.Section.TheVariants as is
use Rattle.amqp_link_sections.proofs.laws.code_is_its_section.Goals as goal

own : (s : Section) → section_of (section_code s) ≡ Some s
own is.Header = refl
own is.DeliveryAnnotations = refl
own is.MessageAnnotations = refl
own is.Properties = refl
own is.ApplicationProperties = refl
own is.Data = refl
own is.AmqpSequence = refl
own is.AmqpValue = refl
own is.Footer = refl

pub returns : goal.returns
returns c = own
