use Rattle.std.proofs.Common.{◌≡◌, length, fold}
use Rattle.std.specs.List.{flat_map}
use Rattle.serde_amqp_values.specs.Compared.{pair_fed}
use Rattle.serde_amqp_values.proofs.lexical.feed.Given as goal

abbrev pub invariant-loop-key : goal.invariant-loop-key
invariant-loop-key g l =
    fold g.H.Hasher.write l.state (flat_map (pair_fed g.K.Hash.hash_input g.V.Hash.hash_input) l.pairs)
    ≡ fold g.H.Hasher.write l.initial.state (flat_map (pair_fed g.K.Hash.hash_input g.V.Hash.hash_input) l.initial.pairs)

abbrev pub decreases-loop-key : goal.decreases-loop-key
decreases-loop-key g l = length l.pairs
