use Rattle.std.proofs.Common.{sym, subst}
use Rattle.amqp_session_core.specs.Tables.{RouteTable, IsSole}
use Rattle.amqp_session_core.proofs.Leading.{sole-forgotten}
use Rattle.amqp_session_core.proofs.routes.Routes.forget.Goals as goal

pub invariant_of-self-else-self : goal.invariant_of-self-else-self
invariant_of-self-else-self c =
    subst (λ (t : RouteTable). IsSole c.forget_noted.new.handles t c.self.inside.has_several)
    (sym c.remove-noted.ensures.rest)
    (sole-forgotten c.self.inside.handles c.self.inside.noted c.self.inside.has_several c.self.invariant
    (c.args.link).0 c.forget_noted.new.handles c.forget_noted.ensures)
