-- An error: part 2, 2.8.14.
use Rattle.std.specs.Prelude.{ℕ, List, [], ◌∷◌, ◌++◌, Option, Some, None}
use Rattle.serde_amqp_item.specs.Item.{Item, scalar, string, symbol}
use Rattle.serde_amqp_item.specs.Record.{option_item, record_item}
use Rattle.serde_amqp_de.specs.Takes.{string_taken, symbol_taken, option_taken, record_taken}
use Rattle.amqp_session_types.specs.Fields.{named_values_item, named_values_taken}
use Rattle.amqp_session_types.specs.declared.error.Error.{Error}

-- amqp:error:list
abbrev pub error_name : List ℕ
error_name = 0x61 ∷ 0x6d ∷ 0x71 ∷ 0x70 ∷ 0x3a ∷ 0x65 ∷ 0x72 ∷ 0x72 ∷ 0x6f ∷ 0x72 ∷ 0x3a ∷ 0x6c ∷ 0x69 ∷ 0x73 ∷ 0x74 ∷ []

-- condition, description, info
abbrev pub error_fields : Error → List Item
error_fields e =
    scalar (symbol e.condition)
    ∷ option_item (λ t. scalar (string t)) e.description
    ∷ option_item named_values_item e.info
    ∷ []

abbrev pub error_item : Error → Item
error_item e = record_item 0x1d (error_fields e)

abbrev pub error_takes : List (Item → Option Item)
error_takes = symbol_taken ∷ option_taken string_taken ∷ option_taken named_values_taken ∷ []

-- the items that are read as an error, and the item of that error
abbrev pub error_taken : Item → Option Item
error_taken = record_taken 0x1d error_name error_takes

-- what is said behind the condition: a colon, a space and the description
abbrev pub description_said : Option (List ℕ) → List ℕ
description_said None = []
description_said (Some text) = 0x3a ∷ 0x20 ∷ text

-- an error as a person reads it
abbrev pub error_said : Error → List ℕ
error_said e = e.condition ++ description_said e.description
