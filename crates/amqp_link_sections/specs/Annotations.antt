-- The sections of a message that are maps: annotations for its next hop, annotations of the message and its footer
-- (part 3, 3.2.2, 3.2.3, 3.2.9 and 3.2.10), and its application's properties (3.2.5).
use Rattle.std.specs.Prelude.{ℕ, List, [], ◌∷◌, Option, bytes_eq}
use Rattle.serde_amqp_item.specs.Item.{Item, scalar, string, raw}
use Rattle.serde_amqp_de.specs.Takes.{string_taken}
use Rattle.serde_amqp_de.specs.Kept.{raw_taken}
use Rattle.serde_amqp_values.specs.Items.{ordered_item}
use Rattle.serde_amqp_values.specs.MapTakes.{ordered_taken}
use Rattle.amqp_link_sections.specs.Described.{described_item, described_as}
use Rattle.amqp_link_sections.specs.declared.delivery_annotations.DeliveryAnnotations.{DeliveryAnnotations}
use Rattle.amqp_link_sections.specs.declared.message_annotations.MessageAnnotations.{MessageAnnotations}
use Rattle.amqp_link_sections.specs.declared.application_properties.ApplicationProperties.{ApplicationProperties}
use Rattle.amqp_link_sections.specs.declared.footer.Footer.{Footer}

-- a map of values of any type to values of any type
abbrev pub annotations_item : List (List ℕ × List ℕ) → Item
annotations_item = ordered_item bytes_eq (λ k. raw k) (λ v. raw v)

abbrev pub annotations_taken : Item → Option Item
annotations_taken = ordered_taken raw_taken raw_taken

-- a map of strings to values of any type
abbrev pub named_values_item : List (List ℕ × List ℕ) → Item
named_values_item = ordered_item bytes_eq (λ k. scalar (string k)) (λ v. raw v)

abbrev pub named_values_taken : Item → Option Item
named_values_taken = ordered_taken string_taken raw_taken

-- amqp:delivery-annotations:map
abbrev pub delivery_annotations_name : List ℕ
delivery_annotations_name =
    0x61 ∷ 0x6d ∷ 0x71 ∷ 0x70 ∷ 0x3a ∷ 0x64 ∷ 0x65 ∷ 0x6c ∷ 0x69 ∷ 0x76 ∷ 0x65 ∷ 0x72 ∷ 0x79 ∷ 0x2d ∷ 0x61 ∷ 0x6e ∷ 0x6e
    ∷ 0x6f ∷ 0x74 ∷ 0x61 ∷ 0x74 ∷ 0x69 ∷ 0x6f ∷ 0x6e ∷ 0x73 ∷ 0x3a ∷ 0x6d ∷ 0x61 ∷ 0x70 ∷ []

abbrev pub delivery_annotations_item : DeliveryAnnotations → Item
delivery_annotations_item a = described_item 0x71 (annotations_item a.0)

-- the items that are read as delivery annotations, and the item of these
abbrev pub delivery_annotations_taken : Item → Option Item
delivery_annotations_taken = described_as 0x71 delivery_annotations_name annotations_taken

-- amqp:message-annotations:map
abbrev pub message_annotations_name : List ℕ
message_annotations_name =
    0x61 ∷ 0x6d ∷ 0x71 ∷ 0x70 ∷ 0x3a ∷ 0x6d ∷ 0x65 ∷ 0x73 ∷ 0x73 ∷ 0x61 ∷ 0x67 ∷ 0x65 ∷ 0x2d ∷ 0x61 ∷ 0x6e ∷ 0x6e ∷ 0x6f
    ∷ 0x74 ∷ 0x61 ∷ 0x74 ∷ 0x69 ∷ 0x6f ∷ 0x6e ∷ 0x73 ∷ 0x3a ∷ 0x6d ∷ 0x61 ∷ 0x70 ∷ []

abbrev pub message_annotations_item : MessageAnnotations → Item
message_annotations_item a = described_item 0x72 (annotations_item a.0)

-- the items that are read as message annotations, and the item of these
abbrev pub message_annotations_taken : Item → Option Item
message_annotations_taken = described_as 0x72 message_annotations_name annotations_taken

-- amqp:application-properties:map
abbrev pub application_properties_name : List ℕ
application_properties_name =
    0x61 ∷ 0x6d ∷ 0x71 ∷ 0x70 ∷ 0x3a ∷ 0x61 ∷ 0x70 ∷ 0x70 ∷ 0x6c ∷ 0x69 ∷ 0x63 ∷ 0x61 ∷ 0x74 ∷ 0x69 ∷ 0x6f ∷ 0x6e ∷ 0x2d
    ∷ 0x70 ∷ 0x72 ∷ 0x6f ∷ 0x70 ∷ 0x65 ∷ 0x72 ∷ 0x74 ∷ 0x69 ∷ 0x65 ∷ 0x73 ∷ 0x3a ∷ 0x6d ∷ 0x61 ∷ 0x70 ∷ []

abbrev pub application_properties_item : ApplicationProperties → Item
application_properties_item p = described_item 0x74 (named_values_item p.0)

-- the items that are read as application properties, and the item of these
abbrev pub application_properties_taken : Item → Option Item
application_properties_taken = described_as 0x74 application_properties_name named_values_taken

-- amqp:footer:map
abbrev pub footer_name : List ℕ
footer_name =
    0x61 ∷ 0x6d ∷ 0x71 ∷ 0x70 ∷ 0x3a ∷ 0x66 ∷ 0x6f ∷ 0x6f ∷ 0x74 ∷ 0x65 ∷ 0x72 ∷ 0x3a ∷ 0x6d ∷ 0x61 ∷ 0x70 ∷ []

abbrev pub footer_item : Footer → Item
footer_item f = described_item 0x78 (annotations_item f.0)

-- the items that are read as a footer, and the item of that footer
abbrev pub footer_taken : Item → Option Item
footer_taken = described_as 0x78 footer_name annotations_taken
