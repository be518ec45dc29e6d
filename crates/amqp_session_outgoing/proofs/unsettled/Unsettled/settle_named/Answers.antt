use Rattle.std.proofs.Common.{rules, ap, ◌∙◌}
use Rattle.indexmap.proofs.CallerLemmas.{filter-RetainsPairs}
use Rattle.amqp_session_outgoing.specs.Table.{Table, Deliveries}
use Rattle.amqp_session_outgoing.specs.Outside.{outside}
use Rattle.amqp_session_outgoing.proofs.Lacking.{outside-kept}
use Rattle.amqp_session_outgoing.proofs.unsettled.Unsettled.settle_named.Goals as goal

pub returns : goal.returns
returns c =
    ap (λ (table : Table). record { table = table; room = c.self.inside.room }) (outside-kept c.self.inside.deliveries.entries c.retain.new.self.entries c.args.range (filter-RetainsPairs _ _ _ (λ k v b w g call. search rules) _ _ c.retain.ensures.filtered))
    ∙ ap (λ (d : Deliveries). record { table = outside c.args.range d.table; room = d.room }) c.self.view_is
