-- The disposition performative: part 2, 2.7.6.
use Rattle.std.specs.Prelude.{ℕ, false, List, [], ◌∷◌, Option}
use Rattle.serde_amqp_item.specs.Item.{Item, scalar, boolean, uint}
use Rattle.serde_amqp_item.specs.Record.{option_item, record_item}
use Rattle.serde_amqp_de.specs.Takes.{boolean_taken, uint_taken, option_taken, record_taken, mapped, or_null}
use Rattle.serde_amqp_de.specs.Takes.{is_boolean}
use Rattle.amqp_session_types.specs.Modes.{role_item, role_taken}
use Rattle.amqp_session_states.specs.DeliveryState.{delivery_state_item, delivery_state_taken}
use Rattle.amqp_session_performatives.specs.declared.disposition.Disposition.{Disposition}

-- amqp:disposition:list
abbrev pub disposition_name : List ℕ
disposition_name =
    0x61 ∷ 0x6d ∷ 0x71 ∷ 0x70 ∷ 0x3a ∷ 0x64 ∷ 0x69 ∷ 0x73 ∷ 0x70 ∷ 0x6f ∷ 0x73 ∷ 0x69 ∷ 0x74 ∷ 0x69 ∷ 0x6f ∷ 0x6e ∷ 0x3a
    ∷ 0x6c ∷ 0x69 ∷ 0x73 ∷ 0x74 ∷ []

-- role, first, last, settled, state, batchable
abbrev pub disposition_fields : Disposition → List Item
disposition_fields d =
    role_item d.role
    ∷ scalar (uint d.first)
    ∷ option_item (λ n. scalar (uint n)) d.last
    ∷ or_null (is_boolean false) (scalar (boolean d.settled))
    ∷ option_item delivery_state_item d.state
    ∷ or_null (is_boolean false) (scalar (boolean d.batchable))
    ∷ []

abbrev pub disposition_item : Disposition → Item
disposition_item d = record_item 0x15 (disposition_fields d)

abbrev pub disposition_takes : List (Item → Option Item)
disposition_takes =
    role_taken
    ∷ uint_taken
    ∷ option_taken uint_taken
    ∷ mapped (or_null (is_boolean false)) (option_taken boolean_taken)
    ∷ option_taken delivery_state_taken
    ∷ mapped (or_null (is_boolean false)) (option_taken boolean_taken)
    ∷ []

-- the items that are read as a disposition, and the item of that disposition
abbrev pub disposition_taken : Item → Option Item
disposition_taken = record_taken 0x15 disposition_name disposition_takes
