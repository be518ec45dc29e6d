-- The sections of a message in their order, and the codes and names of their descriptors (part 3, 3.2).
use Rattle.std.specs.Prelude.{ℕ, ◌==◌, List, Option, Some, None, if◌then◌else◌, bytes_eq}
use Rattle.serde_amqp_item.specs.Item.{Item, scalar, ulong, symbol, described}
use Rattle.amqp_link_sections.specs.Header.{header_name}
use Rattle.amqp_link_sections.specs.Annotations.{delivery_annotations_name, message_annotations_name}
use Rattle.amqp_link_sections.specs.Annotations.{application_properties_name, footer_name}
use Rattle.amqp_link_sections.specs.Properties.{properties_name}
use Rattle.amqp_link_sections.specs.Body.{data_name, amqp_sequence_name, amqp_value_name}
use Rattle.amqp_link_sections.specs.declared.section.Section.{Section}
use Rattle.amqp_link_sections.specs.declared.section.Section.TheVariants as is

abbrev pub section_code : Section → ℕ
section_code is.Header = 0x70
section_code is.DeliveryAnnotations = 0x71
section_code is.MessageAnnotations = 0x72
section_code is.Properties = 0x73
section_code is.ApplicationProperties = 0x74
section_code is.Data = 0x75
section_code is.AmqpSequence = 0x76
section_code is.AmqpValue = 0x77
section_code is.Footer = 0x78

-- the section whose descriptor has this code
abbrev pub section_of : ℕ → Option Section
section_of code =
    if code == 0x70 then Some is.Header else
    if code == 0x71 then Some is.DeliveryAnnotations else
    if code == 0x72 then Some is.MessageAnnotations else
    if code == 0x73 then Some is.Properties else
    if code == 0x74 then Some is.ApplicationProperties else
    if code == 0x75 then Some is.Data else
    if code == 0x76 then Some is.AmqpSequence else
    if code == 0x77 then Some is.AmqpValue else
    if code == 0x78 then Some is.Footer else
    None

-- the section whose descriptor has this name
abbrev pub section_named : List ℕ → Option Section
section_named name =
    if bytes_eq name header_name then Some is.Header else
    if bytes_eq name delivery_annotations_name then Some is.DeliveryAnnotations else
    if bytes_eq name message_annotations_name then Some is.MessageAnnotations else
    if bytes_eq name properties_name then Some is.Properties else
    if bytes_eq name application_properties_name then Some is.ApplicationProperties else
    if bytes_eq name data_name then Some is.Data else
    if bytes_eq name amqp_sequence_name then Some is.AmqpSequence else
    if bytes_eq name amqp_value_name then Some is.AmqpValue else
    if bytes_eq name footer_name then Some is.Footer else
    None

-- the section that a descriptor says, as its code or as its name (part 1, 1.5)
unfoldable pub section_by : Item → Option Section
section_by (scalar (ulong code)) = section_of code
section_by (scalar (symbol name)) = section_named name
section_by _ = None

-- the section that an item says it is, by its descriptor alone
unfoldable pub section_said : Item → Option Section
section_said (described d v) = section_by d
section_said _ = None
