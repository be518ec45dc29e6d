use Rattle.amqp_link_base.proofs.Limits.{moves-on}
use Rattle.amqp_link_base.proofs.flow_laws.limits_move_on.Goals as goal

pub returns : goal.returns
returns c = moves-on
