use Rattle.amqp_session_core.proofs.Leading.{sole-none}
use Rattle.amqp_session_core.proofs.routes.Routes.new.Goals as goal

pub invariant_of-result : goal.invariant_of-result
invariant_of-result c = sole-none c.new.result c.new-2.result c.new.ensures
