-- Bytes give one target, a target is read as it is written, and its item says which it is.
use Rattle.std.proofs.Common.{◌≡◌, ◌∙◌, ap, false, Some, refl}
use Rattle.serde_amqp_item.specs.Item.{scalar, boolean, string, uint}
use Rattle.serde_amqp_de.specs.Again.{option_again, option_faithful, default_again, default_faithful, record_again}
use Rattle.serde_amqp_de.specs.Again.{record_faithful, boolean_faithful, uint_faithful, one_boolean, one_uint}
use Rattle.serde_amqp_de.specs.Decides.{Decided}
use Rattle.serde_amqp_de.specs.Deciding.{boolean_decided, uint_decided, string_decided, option_decided, mapped_decided}
use Rattle.serde_amqp_de.specs.Deciding.{record_decided}
use Rattle.serde_amqp_de.specs.Takes.{boolean_taken, uint_taken, string_taken, option_taken, or_null, is_boolean}
use Rattle.serde_amqp_de.specs.Takes.{is_uint}
use Rattle.amqp_session_types.specs.Again.{named_values_again, named_values_present, symbols_again}
use Rattle.amqp_session_types.specs.Deciding.{named_values_decided, symbols_decided}
use Rattle.amqp_session_types.specs.Faithful.{optional_string_same, optional_values_same, symbols_same}
use Rattle.amqp_session_types.specs.Fields.{named_values_item, named_values_taken}
use Rattle.amqp_session_types.specs.Limits.{is_symbol_of}
use Rattle.amqp_session_states.specs.Deciding.{durability_decided, expiry_policy_decided}
use Rattle.amqp_session_states.specs.Target.{target_fields, target_item, target_name, target_takes, target_taken}
use Rattle.amqp_session_states.specs.Terminus.{durability_item, durability_taken, expiry_policy_item}
use Rattle.amqp_session_states.specs.Terminus.{expiry_policy_taken, session_end_name}
use Rattle.amqp_session_states.specs.TerminusLaws.{durability_again, durability_same, durability_present}
use Rattle.amqp_session_states.specs.TerminusLaws.{durability_one, expiry_policy_again, expiry_policy_same}
use Rattle.amqp_session_states.specs.TerminusLaws.{expiry_policy_one}
use Rattle.amqp_session_states.specs.declared.target.Target.{Target}

pub target_decided : Decided target_taken
target_decided = record_decided 0x29 target_name target_takes (
  option_decided string_taken string_decided,
  (
    mapped_decided (or_null (is_uint 0)) (option_taken durability_taken)
        (option_decided durability_taken durability_decided),
    (
      mapped_decided (or_null (is_symbol_of session_end_name)) (option_taken expiry_policy_taken)
          (option_decided expiry_policy_taken expiry_policy_decided),
      (
        mapped_decided (or_null (is_uint 0)) (option_taken uint_taken) (option_decided uint_taken uint_decided),
        (
          mapped_decided (or_null (is_boolean false)) (option_taken boolean_taken)
              (option_decided boolean_taken boolean_decided),
          (option_decided named_values_taken named_values_decided, (symbols_decided, tt)),
        ),
      ),
    ),
  ),
)

pub target_again : (t : Target) → target_taken (target_item t) ≡ Some (target_item t)
target_again t = record_again 0x29 target_name target_takes (target_fields t) (
  option_again string_taken (λ a. scalar (string a)) (λ _. refl) (λ _. refl) t.address,
  (
    default_again (is_uint 0) durability_taken (durability_item t.durable) (durability_again t.durable)
        (durability_present t.durable),
    (
      default_again (is_symbol_of session_end_name) expiry_policy_taken (expiry_policy_item t.expiry_policy)
          (expiry_policy_again t.expiry_policy) refl,
      (
        default_again (is_uint 0) uint_taken (scalar (uint t.timeout)) refl refl,
        (
          default_again (is_boolean false) boolean_taken (scalar (boolean t.dynamic)) refl refl,
          (
            option_again named_values_taken named_values_item named_values_again named_values_present
                t.dynamic_node_properties,
            (symbols_again t.capabilities, tt),
          ),
        ),
      ),
    ),
  ),
)

-- two targets with the same fields are one
pub target_parts : (t u : Target) → t.address ≡ u.address → t.durable ≡ u.durable → t.expiry_policy ≡ u.expiry_policy
    → t.timeout ≡ u.timeout → t.dynamic ≡ u.dynamic → t.dynamic_node_properties ≡ u.dynamic_node_properties
    → t.capabilities ≡ u.capabilities → t ≡ u
target_parts t u e0 e1 e2 e3 e4 e5 e6 =
    ap (λ x. record t { address = x }) e0
    ∙ (ap (λ x. record t { address = u.address; durable = x }) e1
    ∙ (ap (λ x. record t { address = u.address; durable = u.durable; expiry_policy = x }) e2
    ∙ (ap (λ x. record t { address = u.address; durable = u.durable; expiry_policy = u.expiry_policy; timeout = x }) e3
    ∙
    (ap (λ x. record u {
      dynamic = x;
      dynamic_node_properties = t.dynamic_node_properties;
      capabilities = t.capabilities;
    }) e4
    ∙ (ap (λ x. record u { dynamic_node_properties = x; capabilities = t.capabilities }) e5
    ∙ ap (λ x. record u { capabilities = x }) e6)))))

pub target_same : (t u : Target) → target_item t ≡ target_item u → t ≡ u
target_same t u e =
    let fields : target_fields t ≡ target_fields u = record_faithful 0x29 (target_fields t) (target_fields u) refl e in
    target_parts t u
    (optional_string_same t.address u.address cc)
    (durability_same t.durable u.durable (default_faithful (is_uint 0) (durability_item t.durable)
    (durability_item u.durable) (durability_one t.durable u.durable) (durability_present t.durable)
    (durability_present u.durable) cc))
    (expiry_policy_same t.expiry_policy u.expiry_policy
    (default_faithful (is_symbol_of session_end_name) (expiry_policy_item t.expiry_policy)
    (expiry_policy_item u.expiry_policy) (expiry_policy_one t.expiry_policy u.expiry_policy) refl refl cc))
    (uint_faithful t.timeout u.timeout (default_faithful (is_uint 0) (scalar (uint t.timeout)) (scalar (uint u.timeout))
    (one_uint 0 t.timeout u.timeout) refl refl cc))
    (boolean_faithful t.dynamic u.dynamic (default_faithful (is_boolean false) (scalar (boolean t.dynamic))
    (scalar (boolean u.dynamic)) (one_boolean false t.dynamic u.dynamic) refl refl cc))
    (optional_values_same t.dynamic_node_properties u.dynamic_node_properties cc)
    (symbols_same t.capabilities u.capabilities cc)
