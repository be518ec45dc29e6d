use Rattle.std.proofs.Common.{refl}
use Rattle.serde_amqp_de.specs.Takes.{symbol_taken}
use Rattle.serde_amqp_de.proofs.Heads.{carried}
use Rattle.amqp_session_types.specs.Limits.{is_symbol_among}
use Rattle.amqp_session_types.proofs.Limiting.{limited_refuses}
use Rattle.amqp_session_states.specs.Terminus.{move_name, copy_name, distribution_mode_names}
use Rattle.amqp_session_states.proofs.Policies.{is_meant, no_mode}
use Rattle.amqp_session_states.proofs.terminus.DistributionModeDeserialize.read.Goals as goal

pub returns-clause-refused : goal.returns-clause-refused
returns-clause-refused g c = no_mode c.in_ok-name.name c.as_str.result.now _ _ _ c.in_ok-name.ensures.ok c.as_str.ensures.value c.in_default.not-move c.in_default.not-copy

pub returns-in_err-name-clause-refused : goal.returns-in_err-name-clause-refused
returns-in_err-name-clause-refused g c = carried g.R.Read.faulty c.from_residual.result _ _ _ c.from_residual.ensures.1 (limited_refuses (is_symbol_among distribution_mode_names) symbol_taken _ _) c.in_err-name.ensures.refused

pub returns-in-move-clause-ok : goal.returns-in-move-clause-ok
returns-in-move-clause-ok g c = is_meant distribution_mode_names c.in_ok-name.name c.as_str.result.now move_name _ _ _ c.in_ok-name.ensures.ok c.as_str.ensures.value c.in-move.is refl

pub returns-in-copy-clause-ok : goal.returns-in-copy-clause-ok
returns-in-copy-clause-ok g c = is_meant distribution_mode_names c.in_ok-name.name c.as_str.result.now copy_name _ _ _ c.in_ok-name.ensures.ok c.as_str.ensures.value c.in-copy.is refl
