-- A delivery was modified, but not acted upon: part 3, 3.4.5.
use Rattle.std.specs.Prelude.{ℕ, List, [], ◌∷◌, Option}
use Rattle.serde_amqp_item.specs.Item.{Item, scalar, boolean}
use Rattle.serde_amqp_item.specs.Record.{option_item, record_item}
use Rattle.serde_amqp_de.specs.Takes.{boolean_taken, option_taken, record_taken}
use Rattle.amqp_session_types.specs.Fields.{named_values_item, named_values_taken}
use Rattle.amqp_session_states.specs.declared.modified.Modified.{Modified}

-- amqp:modified:list
abbrev pub modified_name : List ℕ
modified_name =
    0x61 ∷ 0x6d ∷ 0x71 ∷ 0x70 ∷ 0x3a ∷ 0x6d ∷ 0x6f ∷ 0x64 ∷ 0x69 ∷ 0x66 ∷ 0x69 ∷ 0x65 ∷ 0x64 ∷ 0x3a ∷ 0x6c ∷ 0x69 ∷ 0x73
    ∷ 0x74 ∷ []

-- delivery-failed, undeliverable-here, message-annotations
abbrev pub modified_fields : Modified → List Item
modified_fields m =
    option_item (λ b. scalar (boolean b)) m.delivery_failed
    ∷ option_item (λ b. scalar (boolean b)) m.undeliverable_here
    ∷ option_item named_values_item m.message_annotations
    ∷ []

abbrev pub modified_item : Modified → Item
modified_item m = record_item 0x27 (modified_fields m)

abbrev pub modified_takes : List (Item → Option Item)
modified_takes = option_taken boolean_taken ∷ option_taken boolean_taken ∷ option_taken named_values_taken ∷ []

-- the items that are read as a modified state, and the item of that state
abbrev pub modified_taken : Item → Option Item
modified_taken = record_taken 0x27 modified_name modified_takes
