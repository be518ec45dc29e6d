-- The begin performative: part 2, 2.7.2.
use Rattle.std.specs.Prelude.{ℕ, List, [], ◌∷◌, Option}
use Rattle.serde_amqp_item.specs.Item.{Item, scalar, ushort, uint}
use Rattle.serde_amqp_item.specs.Record.{option_item, record_item}
use Rattle.serde_amqp_de.specs.Takes.{ushort_taken, uint_taken, option_taken, record_taken, mapped, or_null, is_uint}
use Rattle.amqp_session_types.specs.Fields.{named_values_item, named_values_taken, symbols_item, symbols_taken}
use Rattle.amqp_session_performatives.specs.declared.begin.Begin.{Begin}

-- amqp:begin:list
abbrev pub begin_name : List ℕ
begin_name = 0x61 ∷ 0x6d ∷ 0x71 ∷ 0x70 ∷ 0x3a ∷ 0x62 ∷ 0x65 ∷ 0x67 ∷ 0x69 ∷ 0x6e ∷ 0x3a ∷ 0x6c ∷ 0x69 ∷ 0x73 ∷ 0x74 ∷ []

-- remote-channel, next-outgoing-id, incoming-window, outgoing-window, handle-max, offered-capabilities,
-- desired-capabilities, properties
abbrev pub begin_fields : Begin → List Item
begin_fields b =
    option_item (λ n. scalar (ushort n)) b.remote_channel
    ∷ scalar (uint b.next_outgoing_id)
    ∷ scalar (uint b.incoming_window)
    ∷ scalar (uint b.outgoing_window)
    ∷ or_null (is_uint 4294967295) (scalar (uint b.handle_max))
    ∷ symbols_item b.offered_capabilities
    ∷ symbols_item b.desired_capabilities
    ∷ option_item named_values_item b.properties
    ∷ []

abbrev pub begin_item : Begin → Item
begin_item b = record_item 0x11 (begin_fields b)

abbrev pub begin_takes : List (Item → Option Item)
begin_takes =
    option_taken ushort_taken
    ∷ uint_taken
    ∷ uint_taken
    ∷ uint_taken
    ∷ mapped (or_null (is_uint 4294967295)) (option_taken uint_taken)
    ∷ symbols_taken
    ∷ symbols_taken
    ∷ option_taken named_values_taken
    ∷ []

-- the items that are read as a begin, and the item of that begin
abbrev pub begin_taken : Item → Option Item
begin_taken = record_taken 0x11 begin_name begin_takes
