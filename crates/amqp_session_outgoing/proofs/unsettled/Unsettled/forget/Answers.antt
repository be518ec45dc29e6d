use Rattle.std.proofs.Common.{rules, ap, ◌∙◌}
use Rattle.std.specs.FinMap as map
use Rattle.indexmap.proofs.CallerLemmas.{filter-RetainsPairs}
use Rattle.amqp_session_outgoing.specs.Table.{Deliveries, unless_of}
use Rattle.amqp_session_outgoing.proofs.Tables.{others_kept}
use Rattle.amqp_session_outgoing.proofs.unsettled.Unsettled.forget.Goals as goal

pub returns-clause-others : goal.returns-clause-others
returns-clause-others c = λ number.
    others_kept c.self.inside.deliveries.entries c.retain.new.self.entries (c.args.handle).0 number c.len.ensures.unique (filter-RetainsPairs _ _ _ (λ k v b w g call. search rules) _ _ c.retain.ensures.filtered)
    ∙ ap (λ (d : Deliveries). unless_of (c.args.handle).0 (map.get d.table number)) c.self.view_is
