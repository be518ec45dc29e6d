-- A delivery was rejected: part 3, 3.4.3.
use Rattle.std.specs.Prelude.{ℕ, List, [], ◌∷◌, Option}
use Rattle.serde_amqp_item.specs.Item.{Item}
use Rattle.serde_amqp_item.specs.Record.{option_item, record_item}
use Rattle.serde_amqp_de.specs.Takes.{option_taken, record_taken}
use Rattle.amqp_session_types.specs.Error.{error_item, error_taken}
use Rattle.amqp_session_states.specs.declared.rejected.Rejected.{Rejected}

-- amqp:rejected:list
abbrev pub rejected_name : List ℕ
rejected_name =
    0x61 ∷ 0x6d ∷ 0x71 ∷ 0x70 ∷ 0x3a ∷ 0x72 ∷ 0x65 ∷ 0x6a ∷ 0x65 ∷ 0x63 ∷ 0x74 ∷ 0x65 ∷ 0x64 ∷ 0x3a ∷ 0x6c ∷ 0x69 ∷ 0x73
    ∷ 0x74 ∷ []

-- error
abbrev pub rejected_fields : Rejected → List Item
rejected_fields r = option_item error_item r.error ∷ []

abbrev pub rejected_item : Rejected → Item
rejected_item r = record_item 0x25 (rejected_fields r)

abbrev pub rejected_takes : List (Item → Option Item)
rejected_takes = option_taken error_taken ∷ []

-- the items that are read as a rejected state, and the item of that state
abbrev pub rejected_taken : Item → Option Item
rejected_taken = record_taken 0x25 rejected_name rejected_takes
