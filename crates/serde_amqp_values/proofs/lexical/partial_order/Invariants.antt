use Rattle.std.proofs.Common.{◌≡◌, length}
use Rattle.std.specs.Cmp.Lexicographic.{slice_partial_cmp}
use Rattle.serde_amqp_values.specs.Compared.{partial_pair_order}
use Rattle.serde_amqp_values.proofs.lexical.partial_order.Given as goal

abbrev pub invariant-loop-a : goal.invariant-loop-a
invariant-loop-a g l =
    slice_partial_cmp (partial_pair_order g.K.PartialOrd.partial_cmp g.V.PartialOrd.partial_cmp) l.left l.right
    ≡ slice_partial_cmp (partial_pair_order g.K.PartialOrd.partial_cmp g.V.PartialOrd.partial_cmp) l.initial.left l.initial.right

abbrev pub decreases-loop-a : goal.decreases-loop-a
decreases-loop-a g l = length l.left
