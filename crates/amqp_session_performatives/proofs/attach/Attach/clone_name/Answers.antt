use Rattle.std.proofs.Common.{rules}
use Rattle.amqp_session_performatives.proofs.Clones.{values_cloned}
use Rattle.amqp_session_performatives.proofs.attach.Attach.clone_name.Goals as goal

pub returns : goal.returns
returns c = (search rules, values_cloned _ _ c.in_ok-clone-2.ensures.cases)
