-- The transfer performative: part 2, 2.7.5.
use Rattle.std.specs.Prelude.{ℕ, false, List, [], ◌∷◌, Option}
use Rattle.serde_amqp_item.specs.Item.{Item, scalar, boolean, uint, binary}
use Rattle.serde_amqp_item.specs.Record.{option_item, record_item}
use Rattle.serde_amqp_de.specs.Takes.{boolean_taken, uint_taken, binary_taken, option_taken, record_taken, mapped}
use Rattle.serde_amqp_de.specs.Takes.{or_null, is_boolean}
use Rattle.amqp_session_types.specs.Modes.{receiver_settle_mode_item, receiver_settle_mode_taken}
use Rattle.amqp_session_states.specs.DeliveryState.{delivery_state_item, delivery_state_taken}
use Rattle.amqp_session_performatives.specs.Parts.{handle_item}
use Rattle.amqp_session_performatives.specs.declared.transfer.Transfer.{Transfer}

-- amqp:transfer:list
abbrev pub transfer_name : List ℕ
transfer_name =
    0x61 ∷ 0x6d ∷ 0x71 ∷ 0x70 ∷ 0x3a ∷ 0x74 ∷ 0x72 ∷ 0x61 ∷ 0x6e ∷ 0x73 ∷ 0x66 ∷ 0x65 ∷ 0x72 ∷ 0x3a ∷ 0x6c ∷ 0x69 ∷ 0x73
    ∷ 0x74 ∷ []

-- handle, delivery-id, delivery-tag, message-format, settled, more, rcv-settle-mode, state, resume, aborted, batchable
abbrev pub transfer_fields : Transfer → List Item
transfer_fields t =
    handle_item t.handle
    ∷ option_item (λ n. scalar (uint n)) t.delivery_id
    ∷ option_item (λ t. scalar (binary t)) t.delivery_tag
    ∷ option_item (λ n. scalar (uint n)) t.message_format
    ∷ option_item (λ b. scalar (boolean b)) t.settled
    ∷ or_null (is_boolean false) (scalar (boolean t.more))
    ∷ option_item receiver_settle_mode_item t.rcv_settle_mode
    ∷ option_item delivery_state_item t.state
    ∷ or_null (is_boolean false) (scalar (boolean t.resume))
    ∷ or_null (is_boolean false) (scalar (boolean t.aborted))
    ∷ or_null (is_boolean false) (scalar (boolean t.batchable))
    ∷ []

abbrev pub transfer_item : Transfer → Item
transfer_item t = record_item 0x14 (transfer_fields t)

abbrev pub transfer_takes : List (Item → Option Item)
transfer_takes =
    uint_taken
    ∷ option_taken uint_taken
    ∷ option_taken binary_taken
    ∷ option_taken uint_taken
    ∷ option_taken boolean_taken
    ∷ mapped (or_null (is_boolean false)) (option_taken boolean_taken)
    ∷ option_taken receiver_settle_mode_taken
    ∷ option_taken delivery_state_taken
    ∷ mapped (or_null (is_boolean false)) (option_taken boolean_taken)
    ∷ mapped (or_null (is_boolean false)) (option_taken boolean_taken)
    ∷ mapped (or_null (is_boolean false)) (option_taken boolean_taken)
    ∷ []

-- the items that are read as a transfer, and the item of that transfer
abbrev pub transfer_taken : Item → Option Item
transfer_taken = record_taken 0x14 transfer_name transfer_takes
