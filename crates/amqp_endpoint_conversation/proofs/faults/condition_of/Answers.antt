use Rattle.std.proofs.Common.{sym, ap}
use Rattle.amqp_session_types.specs.declared.refusals.SessionError.{SessionError}
use Rattle.amqp_endpoint_conversation.specs.Faults.{condition_of}
use Rattle.amqp_endpoint_conversation.proofs.Conditions.{other_condition}
use Rattle.amqp_endpoint_conversation.proofs.faults.condition_of.Goals as goal

pub returns-in-UnattachedHandle : goal.returns-in-UnattachedHandle
returns-in-UnattachedHandle c = ap (λ (e : SessionError). condition_of e) (sym c.in-UnattachedHandle.is)

pub returns-in-HandleInUse : goal.returns-in-HandleInUse
returns-in-HandleInUse c = ap (λ (e : SessionError). condition_of e) (sym c.in-HandleInUse.is)

pub returns-in_default : goal.returns-in_default
returns-in_default c = other_condition c.args.fault.now c.in_default.not-UnattachedHandle c.in_default.not-HandleInUse
