-- The end performative: part 2, 2.7.8.
use Rattle.std.specs.Prelude.{ℕ, List, [], ◌∷◌, Option}
use Rattle.serde_amqp_item.specs.Item.{Item}
use Rattle.serde_amqp_item.specs.Record.{option_item, record_item}
use Rattle.serde_amqp_de.specs.Takes.{option_taken, record_taken}
use Rattle.amqp_session_types.specs.Error.{error_item, error_taken}
use Rattle.amqp_session_performatives.specs.declared.end.End.{End}

-- amqp:end:list
abbrev pub end_name : List ℕ
end_name = 0x61 ∷ 0x6d ∷ 0x71 ∷ 0x70 ∷ 0x3a ∷ 0x65 ∷ 0x6e ∷ 0x64 ∷ 0x3a ∷ 0x6c ∷ 0x69 ∷ 0x73 ∷ 0x74 ∷ []

-- error
abbrev pub end_fields : End → List Item
end_fields e = option_item error_item e.error ∷ []

abbrev pub end_item : End → Item
end_item e = record_item 0x17 (end_fields e)

abbrev pub end_takes : List (Item → Option Item)
end_takes = option_taken error_taken ∷ []

-- the items that are read as an end, and the item of that end
abbrev pub end_taken : Item → Option Item
end_taken = record_taken 0x17 end_name end_takes
