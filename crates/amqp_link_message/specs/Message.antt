-- A message: its sections in order (part 3, 3.2).
use Rattle.std.specs.Prelude.{List, [], ◌∷◌, Option}
use Rattle.serde_amqp_item.specs.Item.{Item}
use Rattle.amqp_link_sections.specs.Header.{header_item, header_taken}
use Rattle.amqp_link_sections.specs.Annotations.{delivery_annotations_item, delivery_annotations_taken}
use Rattle.amqp_link_sections.specs.Annotations.{message_annotations_item, message_annotations_taken}
use Rattle.amqp_link_sections.specs.Annotations.{application_properties_item, application_properties_taken, footer_item}
use Rattle.amqp_link_sections.specs.Annotations.{footer_taken}
use Rattle.amqp_link_sections.specs.Properties.{properties_item, properties_taken}
use Rattle.amqp_link_message.specs.Parts.{if_there, at_most_one, joined}
use Rattle.amqp_link_message.specs.declared.message.Message.{Message}

-- the items of each section; the body may have several
abbrev pub message_parts : {B : Type 0} → (B → List Item) → Message B → List (List Item)
message_parts body_items m =
    if_there header_item m.header
    ∷ if_there delivery_annotations_item m.delivery_annotations
    ∷ if_there message_annotations_item m.message_annotations
    ∷ if_there properties_item m.properties
    ∷ if_there application_properties_item m.application_properties
    ∷ body_items m.body
    ∷ if_there footer_item m.footer
    ∷ []

-- the items of all sections, in order
abbrev pub message_items : {B : Type 0} → (B → List Item) → Message B → List Item
message_items body_items m = joined (message_parts body_items m)

-- at most one header, delivery annotations, message annotations, properties and application properties, in this order,
-- then the body, and at most one footer
abbrev pub message_takes : (List Item → Option (List Item)) → List (List Item → Option (List Item))
message_takes body_takes =
    at_most_one header_taken
    ∷ at_most_one delivery_annotations_taken
    ∷ at_most_one message_annotations_taken
    ∷ at_most_one properties_taken
    ∷ at_most_one application_properties_taken
    ∷ body_takes
    ∷ at_most_one footer_taken
    ∷ []
