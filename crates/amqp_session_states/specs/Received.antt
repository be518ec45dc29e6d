-- How much of a delivery was received: part 3, 3.4.1.
use Rattle.std.specs.Prelude.{ℕ, List, [], ◌∷◌, Option}
use Rattle.serde_amqp_item.specs.Item.{Item, scalar, uint, ulong}
use Rattle.serde_amqp_item.specs.Record.{record_item}
use Rattle.serde_amqp_de.specs.Takes.{uint_taken, ulong_taken, record_taken}
use Rattle.amqp_session_states.specs.declared.received.Received.{Received}

-- amqp:received:list
abbrev pub received_name : List ℕ
received_name =
    0x61 ∷ 0x6d ∷ 0x71 ∷ 0x70 ∷ 0x3a ∷ 0x72 ∷ 0x65 ∷ 0x63 ∷ 0x65 ∷ 0x69 ∷ 0x76 ∷ 0x65 ∷ 0x64 ∷ 0x3a ∷ 0x6c ∷ 0x69 ∷ 0x73
    ∷ 0x74 ∷ []

-- section-number, section-offset
abbrev pub received_fields : Received → List Item
received_fields r = scalar (uint r.section_number) ∷ scalar (ulong r.section_offset) ∷ []

abbrev pub received_item : Received → Item
received_item r = record_item 0x23 (received_fields r)

abbrev pub received_takes : List (Item → Option Item)
received_takes = uint_taken ∷ ulong_taken ∷ []

-- the items that are read as a received state, and the item of that state
abbrev pub received_taken : Item → Option Item
received_taken = record_taken 0x23 received_name received_takes
