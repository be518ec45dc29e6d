-- The close performative: part 2, 2.7.9.
use Rattle.std.specs.Prelude.{ℕ, List, [], ◌∷◌, Option}
use Rattle.serde_amqp_item.specs.Item.{Item}
use Rattle.serde_amqp_item.specs.Record.{option_item, record_item}
use Rattle.serde_amqp_de.specs.Takes.{option_taken, record_taken}
use Rattle.amqp_session_types.specs.Error.{error_item, error_taken}
use Rattle.amqp_session_performatives.specs.declared.close.Close.{Close}

-- amqp:close:list
abbrev pub close_name : List ℕ
close_name = 0x61 ∷ 0x6d ∷ 0x71 ∷ 0x70 ∷ 0x3a ∷ 0x63 ∷ 0x6c ∷ 0x6f ∷ 0x73 ∷ 0x65 ∷ 0x3a ∷ 0x6c ∷ 0x69 ∷ 0x73 ∷ 0x74 ∷ []

-- error
abbrev pub close_fields : Close → List Item
close_fields c = option_item error_item c.error ∷ []

abbrev pub close_item : Close → Item
close_item c = record_item 0x18 (close_fields c)

abbrev pub close_takes : List (Item → Option Item)
close_takes = option_taken error_taken ∷ []

-- the items that are read as a close, and the item of that close
abbrev pub close_taken : Item → Option Item
close_taken = record_taken 0x18 close_name close_takes
