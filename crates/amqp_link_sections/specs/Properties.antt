-- The properties of a message: part 3, 3.2.4.
use Rattle.std.specs.Prelude.{ℕ, List, [], ◌∷◌, Option}
use Rattle.serde_amqp_item.specs.Item.{Item, scalar, uint, timestamp, binary, string, symbol}
use Rattle.serde_amqp_item.specs.Record.{option_item, record_item}
use Rattle.serde_amqp_de.specs.Takes.{uint_taken, timestamp_taken, binary_taken, string_taken, symbol_taken}
use Rattle.serde_amqp_de.specs.Takes.{option_taken, record_taken}
use Rattle.amqp_link_sections.specs.MessageId.{message_id_item, message_id_taken}
use Rattle.amqp_link_sections.specs.declared.properties.Properties.{Properties}

-- amqp:properties:list
abbrev pub properties_name : List ℕ
properties_name =
    0x61 ∷ 0x6d ∷ 0x71 ∷ 0x70 ∷ 0x3a ∷ 0x70 ∷ 0x72 ∷ 0x6f ∷ 0x70 ∷ 0x65 ∷ 0x72 ∷ 0x74 ∷ 0x69 ∷ 0x65 ∷ 0x73 ∷ 0x3a ∷ 0x6c
    ∷ 0x69 ∷ 0x73 ∷ 0x74 ∷ []

-- message-id, user-id, to, subject, reply-to, correlation-id, content-type, content-encoding, absolute-expiry-time,
-- creation-time, group-id, group-sequence, reply-to-group-id
abbrev pub properties_fields : Properties → List Item
properties_fields p =
    option_item message_id_item p.message_id
    ∷ option_item (λ b. scalar (binary b)) p.user_id
    ∷ option_item (λ t. scalar (string t)) p.to
    ∷ option_item (λ t. scalar (string t)) p.subject
    ∷ option_item (λ t. scalar (string t)) p.reply_to
    ∷ option_item message_id_item p.correlation_id
    ∷ option_item (λ t. scalar (symbol t)) p.content_type
    ∷ option_item (λ t. scalar (symbol t)) p.content_encoding
    ∷ option_item (λ z. scalar (timestamp z)) p.absolute_expiry_time
    ∷ option_item (λ z. scalar (timestamp z)) p.creation_time
    ∷ option_item (λ t. scalar (string t)) p.group_id
    ∷ option_item (λ n. scalar (uint n)) p.group_sequence
    ∷ option_item (λ t. scalar (string t)) p.reply_to_group_id
    ∷ []

abbrev pub properties_item : Properties → Item
properties_item p = record_item 0x73 (properties_fields p)

abbrev pub properties_takes : List (Item → Option Item)
properties_takes =
    option_taken message_id_taken
    ∷ option_taken binary_taken
    ∷ option_taken string_taken
    ∷ option_taken string_taken
    ∷ option_taken string_taken
    ∷ option_taken message_id_taken
    ∷ option_taken symbol_taken
    ∷ option_taken symbol_taken
    ∷ option_taken timestamp_taken
    ∷ option_taken timestamp_taken
    ∷ option_taken string_taken
    ∷ option_taken uint_taken
    ∷ option_taken string_taken
    ∷ []

-- the items that are read as properties, and the item of these
abbrev pub properties_taken : Item → Option Item
properties_taken = record_taken 0x73 properties_name properties_takes
