-- A delivery was accepted: part 3, 3.4.2.
use Rattle.std.specs.Prelude.{ℕ, List, [], ◌∷◌, Option}
use Rattle.serde_amqp_item.specs.Item.{Item}
use Rattle.serde_amqp_item.specs.Record.{record_item}
use Rattle.serde_amqp_de.specs.Takes.{record_taken}
use Rattle.amqp_session_states.specs.declared.accepted.Accepted.{Accepted}

-- amqp:accepted:list
abbrev pub accepted_name : List ℕ
accepted_name =
    0x61 ∷ 0x6d ∷ 0x71 ∷ 0x70 ∷ 0x3a ∷ 0x61 ∷ 0x63 ∷ 0x63 ∷ 0x65 ∷ 0x70 ∷ 0x74 ∷ 0x65 ∷ 0x64 ∷ 0x3a ∷ 0x6c ∷ 0x69 ∷ 0x73
    ∷ 0x74 ∷ []

-- no fields
abbrev pub accepted_item : Accepted → Item
accepted_item _ = record_item 0x24 []

abbrev pub accepted_takes : List (Item → Option Item)
accepted_takes = []

-- the items that are read as an accepted state, and the item of that state
abbrev pub accepted_taken : Item → Option Item
accepted_taken = record_taken 0x24 accepted_name accepted_takes
