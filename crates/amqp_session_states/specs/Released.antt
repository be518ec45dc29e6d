-- A delivery was not and will not be acted upon: part 3, 3.4.4.
use Rattle.std.specs.Prelude.{ℕ, List, [], ◌∷◌, Option}
use Rattle.serde_amqp_item.specs.Item.{Item}
use Rattle.serde_amqp_item.specs.Record.{record_item}
use Rattle.serde_amqp_de.specs.Takes.{record_taken}
use Rattle.amqp_session_states.specs.declared.released.Released.{Released}

-- amqp:released:list
abbrev pub released_name : List ℕ
released_name =
    0x61 ∷ 0x6d ∷ 0x71 ∷ 0x70 ∷ 0x3a ∷ 0x72 ∷ 0x65 ∷ 0x6c ∷ 0x65 ∷ 0x61 ∷ 0x73 ∷ 0x65 ∷ 0x64 ∷ 0x3a ∷ 0x6c ∷ 0x69 ∷ 0x73
    ∷ 0x74 ∷ []

-- no fields
abbrev pub released_item : Released → Item
released_item _ = record_item 0x26 []

abbrev pub released_takes : List (Item → Option Item)
released_takes = []

-- the items that are read as a released state, and the item of that state
abbrev pub released_taken : Item → Option Item
released_taken = record_taken 0x26 released_name released_takes
