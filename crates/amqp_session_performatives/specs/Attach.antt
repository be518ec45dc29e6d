-- The attach performative: part 2, 2.7.3.
use Rattle.std.specs.Prelude.{ℕ, false, List, [], ◌∷◌, Option}
use Rattle.serde_amqp_item.specs.Item.{Item, scalar, boolean, uint, ulong, string}
use Rattle.serde_amqp_item.specs.Record.{option_item, record_item}
use Rattle.serde_amqp_de.specs.Takes.{boolean_taken, uint_taken, ulong_taken, string_taken, option_taken, record_taken}
use Rattle.serde_amqp_de.specs.Takes.{mapped, or_null, is_boolean}
use Rattle.serde_amqp_types.specs.Takes.{is_ubyte}
use Rattle.amqp_session_types.specs.Fields.{named_values_item, named_values_taken, symbols_item, symbols_taken}
use Rattle.amqp_session_types.specs.Modes.{role_item, role_taken, sender_settle_mode_item, sender_settle_mode_taken}
use Rattle.amqp_session_types.specs.Modes.{receiver_settle_mode_item, receiver_settle_mode_taken}
use Rattle.amqp_session_states.specs.Source.{source_item, source_taken}
use Rattle.amqp_session_states.specs.TargetArchetype.{target_archetype_item, target_archetype_taken}
use Rattle.amqp_session_performatives.specs.Parts.{handle_item, unsettled_item, unsettled_taken}
use Rattle.amqp_session_performatives.specs.declared.attach.Attach.{Attach}

-- amqp:attach:list
abbrev pub attach_name : List ℕ
attach_name =
    0x61 ∷ 0x6d ∷ 0x71 ∷ 0x70 ∷ 0x3a ∷ 0x61 ∷ 0x74 ∷ 0x74 ∷ 0x61 ∷ 0x63 ∷ 0x68 ∷ 0x3a ∷ 0x6c ∷ 0x69 ∷ 0x73 ∷ 0x74 ∷ []

-- name, handle, role, snd-settle-mode, rcv-settle-mode, source, target, unsettled, incomplete-unsettled,
-- initial-delivery-count, max-message-size, offered-capabilities, desired-capabilities, properties
abbrev pub attach_fields : Attach → List Item
attach_fields a =
    scalar (string a.name)
    ∷ handle_item a.handle
    ∷ role_item a.role
    ∷ or_null (is_ubyte 2) (sender_settle_mode_item a.snd_settle_mode)
    ∷ or_null (is_ubyte 0) (receiver_settle_mode_item a.rcv_settle_mode)
    ∷ option_item source_item a.source
    ∷ option_item target_archetype_item a.target
    ∷ option_item unsettled_item a.unsettled
    ∷ or_null (is_boolean false) (scalar (boolean a.incomplete_unsettled))
    ∷ option_item (λ n. scalar (uint n)) a.initial_delivery_count
    ∷ option_item (λ n. scalar (ulong n)) a.max_message_size
    ∷ symbols_item a.offered_capabilities
    ∷ symbols_item a.desired_capabilities
    ∷ option_item named_values_item a.properties
    ∷ []

abbrev pub attach_item : Attach → Item
attach_item a = record_item 0x12 (attach_fields a)

abbrev pub attach_takes : List (Item → Option Item)
attach_takes =
    string_taken
    ∷ uint_taken
    ∷ role_taken
    ∷ mapped (or_null (is_ubyte 2)) (option_taken sender_settle_mode_taken)
    ∷ mapped (or_null (is_ubyte 0)) (option_taken receiver_settle_mode_taken)
    ∷ option_taken source_taken
    ∷ option_taken target_archetype_taken
    ∷ option_taken unsettled_taken
    ∷ mapped (or_null (is_boolean false)) (option_taken boolean_taken)
    ∷ option_taken uint_taken
    ∷ option_taken ulong_taken
    ∷ symbols_taken
    ∷ symbols_taken
    ∷ option_taken named_values_taken
    ∷ []

-- the items that are read as an attach, and the item of that attach
abbrev pub attach_taken : Item → Option Item
attach_taken = record_taken 0x12 attach_name attach_takes
