use Rattle.std.proofs.Common.{sym, subst}
use Rattle.amqp_session_core.specs.Tables.{RouteTable, IsSole}
use Rattle.amqp_session_core.proofs.Leading.{sole-less}
use Rattle.amqp_session_core.proofs.routes.Routes.remove.Goals as goal

pub invariant_of-self : goal.invariant_of-self
invariant_of-self c =
    subst (λ (t : RouteTable). IsSole t c.self.inside.noted c.self.inside.has_several) (sym c.remove.ensures.rest)
    (sole-less c.self.inside.handles c.self.inside.noted c.self.inside.has_several c.self.invariant c.args.handle)
