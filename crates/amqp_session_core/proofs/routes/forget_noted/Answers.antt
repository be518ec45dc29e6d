use Rattle.std.proofs.Common.{rules, ◌≡◌, Some, ℕ, true, sym, subst, ◌∙◌}
use Rattle.std.specs.FinMap as map
use Rattle.amqp_session_core.specs.Tables.{RouteTable, is_to, unless_to}
use Rattle.amqp_session_core.proofs.Leading.{led-here}
use Rattle.amqp_session_core.proofs.routes.forget_noted.Goals as goal

pub returns-then-is_to : goal.returns-then-is_to
returns-then-is_to c =
    let here : is_to c.args.link (map.get c.args.handles.now c.in-Some.handle) ≡ true = search rules in
    let sole : (h : ℕ) → map.get c.args.handles.now h ≡ Some c.args.link → Some c.in-Some.handle ≡ Some h =
    λ h has. sym c.in-Some.is ∙ c.requires.sole h has in
    subst (λ (t : RouteTable). (h : ℕ) → map.get t h ≡ unless_to c.args.link (map.get c.args.handles.now h))
    (sym c.remove.ensures.rest)
    (led-here c.args.handles.now c.args.link c.in-Some.handle sole here)
