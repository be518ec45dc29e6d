use Rattle.std.proofs.Common.{ap, length, List}
use Rattle.std.specs.Map.Iter.{TakesFirst, deref_pair}
use Rattle.std.proofs.iter.runs.Sources.{from_front}
use Rattle.amqp_link_unsettled.proofs.map.UnsettledMap.iter.Goals as goal

pub returns-clause-runs : goal.returns-clause-runs
returns-clause-runs g c = from_front (TakesFirst deref_pair) deref_pair (λ s. s) (λ s t h. ap (λ (xs : List _). length xs) h.0) (λ s x t h. h)
