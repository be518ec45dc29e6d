-- The sections of a message's body: data, a sequence of values, and a value (part 3, 3.2.6 to 3.2.8).
use Rattle.std.specs.Prelude.{ℕ, List, [], ◌∷◌, map, Option}
use Rattle.serde_amqp_item.specs.Item.{Item, scalar, binary, list, items_of}
use Rattle.serde_amqp_de.specs.Takes.{binary_taken, items_taken}
use Rattle.amqp_link_sections.specs.Described.{described_item, described_as}
use Rattle.amqp_link_sections.specs.declared.body.Data.{Data}
use Rattle.amqp_link_sections.specs.declared.body.AmqpValue.{AmqpValue}

-- amqp:data:binary
abbrev pub data_name : List ℕ
data_name =
    0x61 ∷ 0x6d ∷ 0x71 ∷ 0x70 ∷ 0x3a ∷ 0x64 ∷ 0x61 ∷ 0x74 ∷ 0x61 ∷ 0x3a ∷ 0x62 ∷ 0x69 ∷ 0x6e ∷ 0x61 ∷ 0x72 ∷ 0x79 ∷ []

abbrev pub data_item : Data → Item
data_item d = described_item 0x75 (scalar (binary d.0))

-- the items that are read as data, and the item of these
abbrev pub data_taken : Item → Option Item
data_taken = described_as 0x75 data_name binary_taken

-- amqp:amqp-sequence:list
abbrev pub amqp_sequence_name : List ℕ
amqp_sequence_name =
    0x61 ∷ 0x6d ∷ 0x71 ∷ 0x70 ∷ 0x3a ∷ 0x61 ∷ 0x6d ∷ 0x71 ∷ 0x70 ∷ 0x2d ∷ 0x73 ∷ 0x65 ∷ 0x71 ∷ 0x75 ∷ 0x65 ∷ 0x6e ∷ 0x63
    ∷ 0x65 ∷ 0x3a ∷ 0x6c ∷ 0x69 ∷ 0x73 ∷ 0x74 ∷ []

-- a list of these values
abbrev pub amqp_sequence_item : {X : Type 0} → (X → Item) → List X → Item
amqp_sequence_item item xs = described_item 0x76 (list (items_of (map item xs)))

-- the items that are read as a sequence, and the item of that sequence, by what its values are taken as
abbrev pub amqp_sequence_taken : (Item → Option Item) → Item → Option Item
amqp_sequence_taken take = described_as 0x76 amqp_sequence_name (items_taken take)

-- amqp:amqp-value:*
abbrev pub amqp_value_name : List ℕ
amqp_value_name =
    0x61 ∷ 0x6d ∷ 0x71 ∷ 0x70 ∷ 0x3a ∷ 0x61 ∷ 0x6d ∷ 0x71 ∷ 0x70 ∷ 0x2d ∷ 0x76 ∷ 0x61 ∷ 0x6c ∷ 0x75 ∷ 0x65 ∷ 0x3a ∷ 0x2a
    ∷ []

abbrev pub amqp_value_item : {X : Type 0} → (X → Item) → AmqpValue X → Item
amqp_value_item item v = described_item 0x77 (item v.0)

-- the items that are read as a value, and the item of that value, by what the value itself is taken as
abbrev pub amqp_value_taken : (Item → Option Item) → Item → Option Item
amqp_value_taken take = described_as 0x77 amqp_value_name take
