-- The open performative: part 2, 2.7.1.
use Rattle.std.specs.Prelude.{ℕ, List, [], ◌∷◌, Option}
use Rattle.serde_amqp_item.specs.Item.{Item, scalar, ushort, uint, string}
use Rattle.serde_amqp_item.specs.Record.{option_item, record_item}
use Rattle.serde_amqp_de.specs.Takes.{ushort_taken, uint_taken, string_taken, option_taken, record_taken, mapped}
use Rattle.serde_amqp_de.specs.Takes.{or_null, is_uint, is_ushort}
use Rattle.amqp_session_types.specs.Fields.{named_values_item, named_values_taken, symbols_item, symbols_taken}
use Rattle.amqp_session_performatives.specs.declared.open.Open.{Open}

-- amqp:open:list
abbrev pub open_name : List ℕ
open_name = 0x61 ∷ 0x6d ∷ 0x71 ∷ 0x70 ∷ 0x3a ∷ 0x6f ∷ 0x70 ∷ 0x65 ∷ 0x6e ∷ 0x3a ∷ 0x6c ∷ 0x69 ∷ 0x73 ∷ 0x74 ∷ []

-- container-id, hostname, max-frame-size, channel-max, idle-time-out, outgoing-locales, incoming-locales,
-- offered-capabilities, desired-capabilities, properties
abbrev pub open_fields : Open → List Item
open_fields o =
    scalar (string o.container_id)
    ∷ option_item (λ t. scalar (string t)) o.hostname
    ∷ or_null (is_uint 4294967295) (scalar (uint o.max_frame_size))
    ∷ or_null (is_ushort 65535) (scalar (ushort o.channel_max))
    ∷ option_item (λ n. scalar (uint n)) o.idle_time_out
    ∷ symbols_item o.outgoing_locales
    ∷ symbols_item o.incoming_locales
    ∷ symbols_item o.offered_capabilities
    ∷ symbols_item o.desired_capabilities
    ∷ option_item named_values_item o.properties
    ∷ []

abbrev pub open_item : Open → Item
open_item o = record_item 0x10 (open_fields o)

abbrev pub open_takes : List (Item → Option Item)
open_takes =
    string_taken
    ∷ option_taken string_taken
    ∷ mapped (or_null (is_uint 4294967295)) (option_taken uint_taken)
    ∷ mapped (or_null (is_ushort 65535)) (option_taken ushort_taken)
    ∷ option_taken uint_taken
    ∷ symbols_taken
    ∷ symbols_taken
    ∷ symbols_taken
    ∷ symbols_taken
    ∷ option_taken named_values_taken
    ∷ []

-- the items that are read as an open, and the item of that open
abbrev pub open_taken : Item → Option Item
open_taken = record_taken 0x10 open_name open_takes
