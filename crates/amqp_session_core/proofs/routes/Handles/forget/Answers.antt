use Rattle.std.proofs.Common.{rules, ap, ◌∙◌}
use Rattle.std.specs.FinMap as map
use Rattle.indexmap.proofs.CallerLemmas.{filter-RetainsPairs}
use Rattle.amqp_session_core.specs.Tables.{RouteTable, unless_to}
use Rattle.amqp_session_core.proofs.Tables.{others_kept}
use Rattle.amqp_session_core.proofs.routes.Handles.forget.Goals as goal

pub returns : goal.returns
returns c = λ handle.
    others_kept c.self.inside.handles.entries c.retain.new.self.entries c.args.link handle c.len.ensures.unique
    (filter-RetainsPairs _ _ _ (λ k v b w g call. search rules) _ _ c.retain.ensures.filtered)
    ∙ ap (λ (t : RouteTable). unless_to c.args.link (map.get t handle)) c.self.view_is
