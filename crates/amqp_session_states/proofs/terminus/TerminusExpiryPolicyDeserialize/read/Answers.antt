use Rattle.std.proofs.Common.{refl}
use Rattle.serde_amqp_de.specs.Takes.{symbol_taken}
use Rattle.serde_amqp_de.proofs.Heads.{carried}
use Rattle.amqp_session_types.specs.Limits.{is_symbol_among}
use Rattle.amqp_session_types.proofs.Limiting.{limited_refuses}
use Rattle.amqp_session_states.specs.Terminus.{link_detach_name, session_end_name, connection_close_name, never_name, expiry_policy_names}
use Rattle.amqp_session_states.proofs.Policies.{is_meant, no_policy}
use Rattle.amqp_session_states.proofs.terminus.TerminusExpiryPolicyDeserialize.read.Goals as goal

pub returns-clause-refused : goal.returns-clause-refused
returns-clause-refused g c = no_policy c.in_ok-name.name c.as_str.result.now _ _ _ c.in_ok-name.ensures.ok c.as_str.ensures.value c.in_default.not-text c.in_default.not-text-2 c.in_default.not-text-3 c.in_default.not-never

pub returns-in_err-name-clause-refused : goal.returns-in_err-name-clause-refused
returns-in_err-name-clause-refused g c = carried g.R.Read.faulty c.from_residual.result _ _ _ c.from_residual.ensures.1 (limited_refuses (is_symbol_among expiry_policy_names) symbol_taken _ _) c.in_err-name.ensures.refused

pub returns-in-text-clause-ok : goal.returns-in-text-clause-ok
returns-in-text-clause-ok g c = is_meant expiry_policy_names c.in_ok-name.name c.as_str.result.now link_detach_name _ _ _ c.in_ok-name.ensures.ok c.as_str.ensures.value c.in-text.is refl

pub returns-in-text-2-clause-ok : goal.returns-in-text-2-clause-ok
returns-in-text-2-clause-ok g c = is_meant expiry_policy_names c.in_ok-name.name c.as_str.result.now session_end_name _ _ _ c.in_ok-name.ensures.ok c.as_str.ensures.value c.in-text-2.is refl

pub returns-in-text-3-clause-ok : goal.returns-in-text-3-clause-ok
returns-in-text-3-clause-ok g c = is_meant expiry_policy_names c.in_ok-name.name c.as_str.result.now connection_close_name _ _ _ c.in_ok-name.ensures.ok c.as_str.ensures.value c.in-text-3.is refl

pub returns-in-never-clause-ok : goal.returns-in-never-clause-ok
returns-in-never-clause-ok g c = is_meant expiry_policy_names c.in_ok-name.name c.as_str.result.now never_name _ _ _ c.in_ok-name.ensures.ok c.as_str.ensures.value c.in-never.is refl
