use Rattle.std.proofs.Common.{refl}
use Rattle.serde_amqp_item.specs.Item.{scalar, ubyte}
use Rattle.serde_amqp_de.specs.Takes.{ubyte_taken}
use Rattle.serde_amqp_de.proofs.Heads.{carried}
use Rattle.amqp_session_types.specs.Limits.{is_ubyte_upto}
use Rattle.amqp_session_types.proofs.Limiting.{limited_refuses, limited_took, ubyte_is}
use Rattle.amqp_session_types.proofs.modes.ReceiverSettleModeDeserialize.read.Goals as goal

pub returns-in_err-read-clause-refused : goal.returns-in_err-read-clause-refused
returns-in_err-read-clause-refused g c = carried g.R.Read.faulty c.from_residual.result _ _ _ c.from_residual.ensures.1 (limited_refuses (is_ubyte_upto 1) ubyte_taken _ _) c.in_err-read.ensures.refused

pub returns-in-0-clause-ok : goal.returns-in-0-clause-ok
returns-in-0-clause-ok g c = limited_took (is_ubyte_upto 1) ubyte_taken _ _ _ _ (scalar (ubyte 0)) c.in_ok-read.ensures.ok (ubyte_is _ 0 c.in-0.is) refl

pub returns-in-1-clause-ok : goal.returns-in-1-clause-ok
returns-in-1-clause-ok g c = limited_took (is_ubyte_upto 1) ubyte_taken _ _ _ _ (scalar (ubyte 1)) c.in_ok-read.ensures.ok (ubyte_is _ 1 c.in-1.is) refl
