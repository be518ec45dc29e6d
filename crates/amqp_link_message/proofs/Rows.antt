-- Worked rows, computed from the definitions.
use Rattle.std.proofs.Common.{◌≡◌, [], ◌∷◌, Some, None, refl}
use Rattle.serde_amqp_item.specs.Item.{scalar, string, list, no_items}
use Rattle.serde_amqp_de.specs.Takes.{string_taken, descriptor_taken, items_taken}
use Rattle.amqp_link_sections.specs.Described.{described_item, described_as}
use Rattle.amqp_link_sections.specs.Body.{data_item, amqp_value_taken}
use Rattle.amqp_link_sections.specs.declared.body.Data.{Data}
use Rattle.amqp_link_message.specs.Payload.{payload_text}
use Rattle.amqp_link_message.specs.Parts.{exactly_one}
use Rattle.amqp_link_message.specs.Message.{message_items}
use Rattle.amqp_link_message.specs.AnyBody.{body_takes}
use Rattle.amqp_link_message.specs.Making.{bare}
use Rattle.amqp_link_message.specs.Raw.{kept_items}

-- a message of the data "hi" alone
data_alone : payload_text (message_items (λ (d : Data). data_item d ∷ []) (bare (record { 0 = 0x68 ∷ 0x69 ∷ [] }))) ≡ Some (0x00 ∷ 0x53 ∷ 0x75 ∷ 0xa0 ∷ 0x02 ∷ 0x68 ∷ 0x69 ∷ [])
data_alone = refl

-- data is no amqp-value
data_no_value : exactly_one (amqp_value_taken string_taken) (data_item (record { 0 = 0x68 ∷ 0x69 ∷ [] }) ∷ []) ≡ None
unfolding described_as descriptor_taken
data_no_value = refl

-- an empty payload
nothing_kept : payload_text (kept_items []) ≡ Some []
nothing_kept = refl

-- two data sections are a body
two_data : body_takes string_taken (data_item (record { 0 = 0x61 ∷ [] }) ∷ data_item (record { 0 = [] }) ∷ []) ≡ Some (data_item (record { 0 = 0x61 ∷ [] }) ∷ data_item (record { 0 = [] }) ∷ [])
unfolding described_as descriptor_taken
two_data = refl

-- data and a sequence behind it are none
data_and_sequence : body_takes string_taken (data_item (record { 0 = [] }) ∷ described_item 0x76 (list no_items) ∷ []) ≡ None
unfolding described_as descriptor_taken items_taken
data_and_sequence = refl

-- nor are two values, or no section
two_values : body_takes string_taken (described_item 0x77 (scalar (string [])) ∷ described_item 0x77 (scalar (string [])) ∷ []) ≡ None
unfolding described_as descriptor_taken items_taken
two_values = refl

no_section : body_takes string_taken [] ≡ None
no_section = refl
