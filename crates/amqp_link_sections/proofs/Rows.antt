-- Sections as bytes, and bytes as sections, computed from the definitions.
use Rattle.std.proofs.Common.{◌≡◌, ℕ, List, [], ◌∷◌, Some, None, refl}
use Rattle.std.specs.Char.{encode_utf8}
use Rattle.std.specs.Str.{is_utf8, chars}
use Rattle.serde_amqp_item.specs.Item.{scalar, uint, ulong, binary, string, symbol, list, described, no_items}
use Rattle.serde_amqp_item.specs.Canon.{canon}
use Rattle.serde_amqp_de.specs.Takes.{descriptor_taken}
use Rattle.serde_amqp_de.specs.Maps.{pairs_taken}
use Rattle.serde_amqp_values.specs.Items.{ordered_item}
use Rattle.serde_amqp_values.specs.MapTakes.{ordered_taken}
use Rattle.amqp_link_sections.specs.Described.{described_as}
use Rattle.amqp_link_sections.specs.Header.{default_header, header_item}
use Rattle.amqp_link_sections.specs.Annotations.{application_properties_item, footer_item, footer_taken}
use Rattle.amqp_link_sections.specs.MessageId.{message_id_taken}
use Rattle.amqp_link_sections.specs.Properties.{properties_item}
use Rattle.amqp_link_sections.specs.Body.{data_name, data_item, data_taken, amqp_sequence_item, amqp_value_item}
use Rattle.amqp_link_sections.specs.declared.message_id.MessageId.TheVariants as id

-- "hi"
greeting : List ℕ
greeting = 0x68 ∷ 0x69 ∷ []

-- a header of defaults has no fields left
header_row : canon (header_item default_header) ≡ Some (0x00 ∷ 0x53 ∷ 0x70 ∷ 0x45 ∷ [])
header_row = refl

-- a field before the last one that isn't null is written as null where it has its default
urgent_row : canon (header_item (record default_header { priority = 5 })) ≡ Some (0x00 ∷ 0x53 ∷ 0x70 ∷ 0xc0 ∷ 0x04 ∷ 0x02 ∷ 0x40 ∷ 0x50 ∷ 0x05 ∷ [])
urgent_row = refl

-- a message-id and the third field, the address
properties_row : canon (properties_item (record {
  message_id = Some (id.Ulong 7);
  user_id = None;
  to = Some (0x74 ∷ []);
  subject = None;
  reply_to = None;
  correlation_id = None;
  content_type = None;
  content_encoding = None;
  absolute_expiry_time = None;
  creation_time = None;
  group_id = None;
  group_sequence = None;
  reply_to_group_id = None;
})) ≡ Some (0x00 ∷ 0x53 ∷ 0x73 ∷ 0xc0 ∷ 0x07 ∷ 0x03 ∷ 0x53 ∷ 0x07 ∷ 0x40 ∷ 0xa1 ∷ 0x01 ∷ 0x74 ∷ [])
unfolding is_utf8 chars encode_utf8
properties_row = refl

-- a name that is true
application_properties_row : canon (application_properties_item (record { 0 = (0x61 ∷ [], 0x41 ∷ []) ∷ [] })) ≡ Some (0x00 ∷ 0x53 ∷ 0x74 ∷ 0xc1 ∷ 0x05 ∷ 0x02 ∷ 0xa1 ∷ 0x01 ∷ 0x61 ∷ 0x41 ∷ [])
unfolding ordered_item is_utf8 chars encode_utf8
application_properties_row = refl

data_row : canon (data_item (record { 0 = greeting })) ≡ Some (0x00 ∷ 0x53 ∷ 0x75 ∷ 0xa0 ∷ 0x02 ∷ 0x68 ∷ 0x69 ∷ [])
unfolding greeting
data_row = refl

sequence_row : canon (amqp_sequence_item (λ n. scalar (uint n)) (1 ∷ 2 ∷ [])) ≡ Some (0x00 ∷ 0x53 ∷ 0x76 ∷ 0xc0 ∷ 0x05 ∷ 0x02 ∷ 0x52 ∷ 0x01 ∷ 0x52 ∷ 0x02 ∷ [])
sequence_row = refl

value_row : canon (amqp_value_item (λ t. scalar (string t)) (record { 0 = greeting })) ≡ Some (0x00 ∷ 0x53 ∷ 0x77 ∷ 0xa1 ∷ 0x02 ∷ 0x68 ∷ 0x69 ∷ [])
unfolding greeting is_utf8 chars encode_utf8
value_row = refl

footer_row : canon (footer_item (record { 0 = [] })) ≡ Some (0x00 ∷ 0x53 ∷ 0x78 ∷ 0xc1 ∷ 0x01 ∷ 0x00 ∷ [])
unfolding ordered_item
footer_row = refl

-- data by their name
named_row : data_taken (described (scalar (symbol data_name)) (scalar (binary greeting))) ≡ Some (data_item (record { 0 = greeting }))
unfolding described_as descriptor_taken
named_row = refl

-- a binary that isn't described, and one with the descriptor of a sequence, are no data
bare_row : data_taken (scalar (binary greeting)) ≡ None
unfolding described_as
bare_row = refl

other_row : data_taken (described (scalar (ulong 0x76)) (scalar (binary greeting))) ≡ None
unfolding described_as descriptor_taken
other_row = refl

-- a list is no footer
list_row : footer_taken (described (scalar (ulong 0x78)) (list no_items)) ≡ None
unfolding described_as descriptor_taken ordered_taken pairs_taken
list_row = refl

-- a number of four bytes is no message-id
uint_row : message_id_taken (scalar (uint 7)) ≡ None
unfolding message_id_taken
uint_row = refl
