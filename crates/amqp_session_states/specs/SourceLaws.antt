-- Bytes give one source, a source is read as it is written, and its item says which it is.
use Rattle.std.proofs.Common.{◌≡◌, ◌∙◌, ap, false, Some, refl}
use Rattle.serde_amqp_item.specs.Item.{scalar, boolean, string, uint}
use Rattle.serde_amqp_de.specs.Again.{option_again, option_faithful, default_again, default_faithful, record_again, record_faithful, boolean_faithful, uint_faithful, one_boolean, one_uint}
use Rattle.serde_amqp_de.specs.Decides.{Decided}
use Rattle.serde_amqp_de.specs.Deciding.{boolean_decided, uint_decided, string_decided, option_decided, mapped_decided, record_decided}
use Rattle.serde_amqp_de.specs.Takes.{boolean_taken, uint_taken, string_taken, option_taken, or_null, is_boolean, is_uint}
use Rattle.amqp_session_types.specs.Again.{named_values_again, named_values_present, symbols_again}
use Rattle.amqp_session_types.specs.Deciding.{named_values_decided, symbols_decided}
use Rattle.amqp_session_types.specs.Faithful.{optional_string_same, optional_values_same, symbols_same}
use Rattle.amqp_session_types.specs.Fields.{named_values_item, named_values_taken}
use Rattle.amqp_session_types.specs.Limits.{is_symbol_of}
use Rattle.amqp_session_states.specs.OutcomeLaws.{outcome_decided, outcome_again, outcome_same, outcome_present}
use Rattle.amqp_session_states.specs.Deciding.{durability_decided, expiry_policy_decided, distribution_mode_decided}
use Rattle.amqp_session_states.specs.Outcome.{outcome_item, outcome_taken}
use Rattle.amqp_session_states.specs.Source.{source_fields, source_item, source_name, source_takes, source_taken}
use Rattle.amqp_session_states.specs.Terminus.{durability_item, durability_taken, expiry_policy_item, expiry_policy_taken, session_end_name, distribution_mode_item, distribution_mode_taken}
use Rattle.amqp_session_states.specs.TerminusLaws.{durability_again, durability_same, durability_present, durability_one, expiry_policy_again, expiry_policy_same, expiry_policy_one, distribution_mode_again, distribution_mode_same}
use Rattle.amqp_session_states.specs.declared.source.Source.{Source}

pub source_decided : Decided source_taken
source_decided = record_decided 0x28 source_name source_takes (
  option_decided string_taken string_decided,
  (
    mapped_decided (or_null (is_uint 0)) (option_taken durability_taken) (option_decided durability_taken durability_decided),
    (
      mapped_decided (or_null (is_symbol_of session_end_name)) (option_taken expiry_policy_taken) (option_decided expiry_policy_taken expiry_policy_decided),
      (
        mapped_decided (or_null (is_uint 0)) (option_taken uint_taken) (option_decided uint_taken uint_decided),
        (
          mapped_decided (or_null (is_boolean false)) (option_taken boolean_taken) (option_decided boolean_taken boolean_decided),
          (
            option_decided named_values_taken named_values_decided,
            (
              option_decided distribution_mode_taken distribution_mode_decided,
              (option_decided named_values_taken named_values_decided, (option_decided outcome_taken outcome_decided, (symbols_decided, (symbols_decided, tt)))),
            ),
          ),
        ),
      ),
    ),
  ),
)

pub source_again : (s : Source) → source_taken (source_item s) ≡ Some (source_item s)
source_again s = record_again 0x28 source_name source_takes (source_fields s) (
  option_again string_taken (λ a. scalar (string a)) (λ _. refl) (λ _. refl) s.address,
  (
    default_again (is_uint 0) durability_taken (durability_item s.durable) (durability_again s.durable) (durability_present s.durable),
    (
      default_again (is_symbol_of session_end_name) expiry_policy_taken (expiry_policy_item s.expiry_policy) (expiry_policy_again s.expiry_policy) refl,
      (
        default_again (is_uint 0) uint_taken (scalar (uint s.timeout)) refl refl,
        (
          default_again (is_boolean false) boolean_taken (scalar (boolean s.dynamic)) refl refl,
          (
            option_again named_values_taken named_values_item named_values_again named_values_present s.dynamic_node_properties,
            (
              option_again distribution_mode_taken distribution_mode_item distribution_mode_again (λ _. refl) s.distribution_mode,
              (
                option_again named_values_taken named_values_item named_values_again named_values_present s.filter,
                (
                  option_again outcome_taken outcome_item outcome_again outcome_present s.default_outcome,
                  (symbols_again s.outcomes, (symbols_again s.capabilities, tt)),
                ),
              ),
            ),
          ),
        ),
      ),
    ),
  ),
)

-- two sources with the same fields are one
pub source_parts : (s u : Source) → s.address ≡ u.address → s.durable ≡ u.durable → s.expiry_policy ≡ u.expiry_policy → s.timeout ≡ u.timeout → s.dynamic ≡ u.dynamic → s.dynamic_node_properties ≡ u.dynamic_node_properties → s.distribution_mode ≡ u.distribution_mode → s.filter ≡ u.filter → s.default_outcome ≡ u.default_outcome → s.outcomes ≡ u.outcomes → s.capabilities ≡ u.capabilities → s ≡ u
source_parts s u e0 e1 e2 e3 e4 e5 e6 e7 e8 e9 e10 =
    ap (λ x. record s { address = x }) e0
    ∙ (ap (λ x. record s { address = u.address; durable = x }) e1
    ∙ (ap (λ x. record s { address = u.address; durable = u.durable; expiry_policy = x }) e2
    ∙ (ap (λ x. record s { address = u.address; durable = u.durable; expiry_policy = u.expiry_policy; timeout = x }) e3
    ∙ (ap (λ x. record s { address = u.address; durable = u.durable; expiry_policy = u.expiry_policy; timeout = u.timeout; dynamic = x }) e4
    ∙ (ap (λ x. record s { address = u.address; durable = u.durable; expiry_policy = u.expiry_policy; timeout = u.timeout; dynamic = u.dynamic; dynamic_node_properties = x }) e5
    ∙ (ap (λ x. record u { distribution_mode = x; filter = s.filter; default_outcome = s.default_outcome; outcomes = s.outcomes; capabilities = s.capabilities }) e6
    ∙ (ap (λ x. record u { filter = x; default_outcome = s.default_outcome; outcomes = s.outcomes; capabilities = s.capabilities }) e7
    ∙ (ap (λ x. record u { default_outcome = x; outcomes = s.outcomes; capabilities = s.capabilities }) e8
    ∙ (ap (λ x. record u { outcomes = x; capabilities = s.capabilities }) e9
    ∙ ap (λ x. record u { capabilities = x }) e10)))))))))

pub source_same : (s u : Source) → source_item s ≡ source_item u → s ≡ u
source_same s u e =
    let fields : source_fields s ≡ source_fields u = record_faithful 0x28 (source_fields s) (source_fields u) refl e in
    source_parts s u
    (optional_string_same s.address u.address cc)
    (durability_same s.durable u.durable (default_faithful (is_uint 0) (durability_item s.durable) (durability_item u.durable) (durability_one s.durable u.durable) (durability_present s.durable) (durability_present u.durable) cc))
    (expiry_policy_same s.expiry_policy u.expiry_policy (default_faithful (is_symbol_of session_end_name) (expiry_policy_item s.expiry_policy) (expiry_policy_item u.expiry_policy) (expiry_policy_one s.expiry_policy u.expiry_policy) refl refl cc))
    (uint_faithful s.timeout u.timeout (default_faithful (is_uint 0) (scalar (uint s.timeout)) (scalar (uint u.timeout)) (one_uint 0 s.timeout u.timeout) refl refl cc))
    (boolean_faithful s.dynamic u.dynamic (default_faithful (is_boolean false) (scalar (boolean s.dynamic)) (scalar (boolean u.dynamic)) (one_boolean false s.dynamic u.dynamic) refl refl cc))
    (optional_values_same s.dynamic_node_properties u.dynamic_node_properties cc)
    (option_faithful distribution_mode_item distribution_mode_same (λ _. refl) s.distribution_mode u.distribution_mode cc)
    (optional_values_same s.filter u.filter cc)
    (option_faithful outcome_item outcome_same outcome_present s.default_outcome u.default_outcome cc)
    (symbols_same s.outcomes u.outcomes cc)
    (symbols_same s.capabilities u.capabilities cc)
