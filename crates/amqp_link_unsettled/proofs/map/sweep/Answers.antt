use Rattle.std.proofs.Common.{rules, is_some}
use Rattle.indexmap.proofs.CallerLemmas.{filter-RetainsPairs}
use Rattle.amqp_link_unsettled.proofs.map.sweep.Goals as goal

pub returns-clause-entries : goal.returns-clause-entries
returns-clause-entries g c = filter-RetainsPairs _ _ _ (λ k v b w h call. search rules) _ _ c.retain.ensures.filtered
