-- The source of a link: part 3, 3.5.3.
use Rattle.std.specs.Prelude.{ℕ, Bool, false, List, [], ◌∷◌, Option, Some, None}
use Rattle.serde_amqp_item.specs.Item.{Item, scalar, boolean, uint, string}
use Rattle.serde_amqp_item.specs.Record.{option_item, record_item}
use Rattle.serde_amqp_de.specs.Takes.{boolean_taken, uint_taken, string_taken, option_taken, mapped, or_null}
use Rattle.serde_amqp_de.specs.Takes.{is_boolean, is_uint, record_taken}
use Rattle.amqp_session_types.specs.Fields.{named_values_item, named_values_taken, symbols_item, symbols_taken}
use Rattle.amqp_session_types.specs.Limits.{is_symbol_of}
use Rattle.amqp_session_states.specs.Outcome.{outcome_item, outcome_taken}
use Rattle.amqp_session_states.specs.Terminus.{durability_item, durability_taken, expiry_policy_item}
use Rattle.amqp_session_states.specs.Terminus.{expiry_policy_taken, session_end_name, distribution_mode_item}
use Rattle.amqp_session_states.specs.Terminus.{distribution_mode_taken}
use Rattle.amqp_session_states.specs.declared.source.Source.{Source}
use Rattle.amqp_session_states.specs.declared.terminus.TerminusDurability.TheVariants.{None as Undurable}
use Rattle.amqp_session_states.specs.declared.terminus.TerminusExpiryPolicy.TheVariants.{SessionEnd}

-- amqp:source:list
abbrev pub source_name : List ℕ
source_name =
    0x61 ∷ 0x6d ∷ 0x71 ∷ 0x70 ∷ 0x3a ∷ 0x73 ∷ 0x6f ∷ 0x75 ∷ 0x72 ∷ 0x63 ∷ 0x65 ∷ 0x3a ∷ 0x6c ∷ 0x69 ∷ 0x73 ∷ 0x74 ∷ []

-- address, durable, expiry-policy, timeout, dynamic, dynamic-node-properties, distribution-mode, filter,
-- default-outcome, outcomes, capabilities
abbrev pub source_fields : Source → List Item
source_fields s =
    option_item (λ a. scalar (string a)) s.address
    ∷ or_null (is_uint 0) (durability_item s.durable)
    ∷ or_null (is_symbol_of session_end_name) (expiry_policy_item s.expiry_policy)
    ∷ or_null (is_uint 0) (scalar (uint s.timeout))
    ∷ or_null (is_boolean false) (scalar (boolean s.dynamic))
    ∷ option_item named_values_item s.dynamic_node_properties
    ∷ option_item distribution_mode_item s.distribution_mode
    ∷ option_item named_values_item s.filter
    ∷ option_item outcome_item s.default_outcome
    ∷ symbols_item s.outcomes
    ∷ symbols_item s.capabilities
    ∷ []

abbrev pub source_item : Source → Item
source_item s = record_item 0x28 (source_fields s)

abbrev pub source_takes : List (Item → Option Item)
source_takes =
    option_taken string_taken
    ∷ mapped (or_null (is_uint 0)) (option_taken durability_taken)
    ∷ mapped (or_null (is_symbol_of session_end_name)) (option_taken expiry_policy_taken)
    ∷ mapped (or_null (is_uint 0)) (option_taken uint_taken)
    ∷ mapped (or_null (is_boolean false)) (option_taken boolean_taken)
    ∷ option_taken named_values_taken
    ∷ option_taken distribution_mode_taken
    ∷ option_taken named_values_taken
    ∷ option_taken outcome_taken
    ∷ symbols_taken
    ∷ symbols_taken
    ∷ []

-- the items that are read as a source, and the item of that source
abbrev pub source_taken : Item → Option Item
source_taken = record_taken 0x28 source_name source_takes

-- the source with an address, whose other fields have their defaults
abbrev pub source_of : List ℕ → Source
source_of address = record {
  address = Some address;
  durable = Undurable;
  expiry_policy = SessionEnd;
  timeout = 0;
  dynamic = false;
  dynamic_node_properties = None;
  distribution_mode = None;
  filter = None;
  default_outcome = None;
  outcomes = [];
  capabilities = [];
}
