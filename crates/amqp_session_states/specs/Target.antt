-- The target of a link: part 3, 3.5.4.
use Rattle.std.specs.Prelude.{ℕ, Bool, false, List, [], ◌∷◌, Option, Some, None}
use Rattle.serde_amqp_item.specs.Item.{Item, scalar, boolean, uint, string}
use Rattle.serde_amqp_item.specs.Record.{option_item, record_item}
use Rattle.serde_amqp_de.specs.Takes.{boolean_taken, uint_taken, string_taken, option_taken, mapped, or_null}
use Rattle.serde_amqp_de.specs.Takes.{is_boolean, is_uint, record_taken}
use Rattle.amqp_session_types.specs.Fields.{named_values_item, named_values_taken, symbols_item, symbols_taken}
use Rattle.amqp_session_types.specs.Limits.{is_symbol_of}
use Rattle.amqp_session_states.specs.Terminus.{durability_item, durability_taken, expiry_policy_item}
use Rattle.amqp_session_states.specs.Terminus.{expiry_policy_taken, session_end_name}
use Rattle.amqp_session_states.specs.declared.target.Target.{Target}
use Rattle.amqp_session_states.specs.declared.terminus.TerminusDurability.TheVariants.{None as Undurable}
use Rattle.amqp_session_states.specs.declared.terminus.TerminusExpiryPolicy.TheVariants.{SessionEnd}

-- amqp:target:list
abbrev pub target_name : List ℕ
target_name =
    0x61 ∷ 0x6d ∷ 0x71 ∷ 0x70 ∷ 0x3a ∷ 0x74 ∷ 0x61 ∷ 0x72 ∷ 0x67 ∷ 0x65 ∷ 0x74 ∷ 0x3a ∷ 0x6c ∷ 0x69 ∷ 0x73 ∷ 0x74 ∷ []

-- address, durable, expiry-policy, timeout, dynamic, dynamic-node-properties, capabilities
abbrev pub target_fields : Target → List Item
target_fields t =
    option_item (λ a. scalar (string a)) t.address
    ∷ or_null (is_uint 0) (durability_item t.durable)
    ∷ or_null (is_symbol_of session_end_name) (expiry_policy_item t.expiry_policy)
    ∷ or_null (is_uint 0) (scalar (uint t.timeout))
    ∷ or_null (is_boolean false) (scalar (boolean t.dynamic))
    ∷ option_item named_values_item t.dynamic_node_properties
    ∷ symbols_item t.capabilities
    ∷ []

abbrev pub target_item : Target → Item
target_item t = record_item 0x29 (target_fields t)

abbrev pub target_takes : List (Item → Option Item)
target_takes =
    option_taken string_taken
    ∷ mapped (or_null (is_uint 0)) (option_taken durability_taken)
    ∷ mapped (or_null (is_symbol_of session_end_name)) (option_taken expiry_policy_taken)
    ∷ mapped (or_null (is_uint 0)) (option_taken uint_taken)
    ∷ mapped (or_null (is_boolean false)) (option_taken boolean_taken)
    ∷ option_taken named_values_taken
    ∷ symbols_taken
    ∷ []

-- the items that are read as a target, and the item of that target
abbrev pub target_taken : Item → Option Item
target_taken = record_taken 0x29 target_name target_takes

-- the target with an address, whose other fields have their defaults
abbrev pub target_of : List ℕ → Target
target_of address = record {
  address = Some address;
  durable = Undurable;
  expiry_policy = SessionEnd;
  timeout = 0;
  dynamic = false;
  dynamic_node_properties = None;
  capabilities = [];
}
