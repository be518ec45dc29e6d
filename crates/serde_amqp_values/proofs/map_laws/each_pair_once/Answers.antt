use Rattle.serde_amqp_values.proofs.PairLaws.{places_apart}
use Rattle.serde_amqp_values.proofs.map_laws.each_pair_once.Goals as goal

pub returns : goal.returns
returns g c = places_apart g.K.PartialEq.eq
