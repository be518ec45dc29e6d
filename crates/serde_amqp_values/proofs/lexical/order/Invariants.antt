use Rattle.std.proofs.Common.{◌≡◌, length}
use Rattle.std.specs.Cmp.Lexicographic.{slice_cmp}
use Rattle.serde_amqp_values.specs.Compared.{pair_order}
use Rattle.serde_amqp_values.proofs.lexical.order.Given as goal

abbrev pub invariant-loop-a : goal.invariant-loop-a
invariant-loop-a g l =
    slice_cmp (pair_order g.K.Ord.cmp g.V.Ord.cmp) l.left l.right
    ≡ slice_cmp (pair_order g.K.Ord.cmp g.V.Ord.cmp) l.initial.left l.initial.right

abbrev pub decreases-loop-a : goal.decreases-loop-a
decreases-loop-a g l = length l.left
