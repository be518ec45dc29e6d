use Rattle.serde_amqp_values.proofs.PairLaws.{clones_equal}
use Rattle.serde_amqp_values.proofs.map_laws.clone_is_equal.Goals as goal

pub returns : goal.returns
returns g c = clones_equal g.K.Clone.is_clone g.V.Clone.is_clone
