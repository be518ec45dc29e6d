-- The detach performative: part 2, 2.7.7.
use Rattle.std.specs.Prelude.{ℕ, false, List, [], ◌∷◌, Option}
use Rattle.serde_amqp_item.specs.Item.{Item, scalar, boolean}
use Rattle.serde_amqp_item.specs.Record.{option_item, record_item}
use Rattle.serde_amqp_de.specs.Takes.{boolean_taken, uint_taken, option_taken, record_taken, mapped, or_null}
use Rattle.serde_amqp_de.specs.Takes.{is_boolean}
use Rattle.amqp_session_types.specs.Error.{error_item, error_taken}
use Rattle.amqp_session_performatives.specs.Parts.{handle_item}
use Rattle.amqp_session_performatives.specs.declared.detach.Detach.{Detach}

-- amqp:detach:list
abbrev pub detach_name : List ℕ
detach_name =
    0x61 ∷ 0x6d ∷ 0x71 ∷ 0x70 ∷ 0x3a ∷ 0x64 ∷ 0x65 ∷ 0x74 ∷ 0x61 ∷ 0x63 ∷ 0x68 ∷ 0x3a ∷ 0x6c ∷ 0x69 ∷ 0x73 ∷ 0x74 ∷ []

-- handle, closed, error
abbrev pub detach_fields : Detach → List Item
detach_fields d =
    handle_item d.handle
    ∷ or_null (is_boolean false) (scalar (boolean d.closed))
    ∷ option_item error_item d.error
    ∷ []

abbrev pub detach_item : Detach → Item
detach_item d = record_item 0x16 (detach_fields d)

abbrev pub detach_takes : List (Item → Option Item)
detach_takes =
    uint_taken ∷ mapped (or_null (is_boolean false)) (option_taken boolean_taken) ∷ option_taken error_taken ∷ []

-- the items that are read as a detach, and the item of that detach
abbrev pub detach_taken : Item → Option Item
detach_taken = record_taken 0x16 detach_name detach_takes
