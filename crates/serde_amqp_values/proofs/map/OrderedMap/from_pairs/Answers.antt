use Rattle.std.proofs.Common.{[], ◌∙◌, ap}
use Rattle.indexmap.proofs.CallerLemmas.{Drains-YieldsInOrder}
use Rattle.serde_amqp_values.specs.Pairs.{all_inserted}
use Rattle.serde_amqp_values.proofs.map.OrderedMap.from_pairs.Goals as goal

pub returns : goal.returns
returns g c =
    let ran = c.in_ok-from_iter.ensures.ran in
    let whole = Drains-YieldsInOrder _ _ ran.0 ran.1 ran.2.3 ((ran.3.2 tt).0, (ran.3.0, ran.3.1, (ran.3.2 tt).1)) ∙ ran.2.0 in
    record { value = ran.4.0 ∙ ap (all_inserted g.K.PartialEq.eq []) whole; apart = ran.4.1 }
