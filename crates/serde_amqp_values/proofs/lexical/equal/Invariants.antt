use Rattle.std.proofs.Common.{◌≡◌, length}
use Rattle.std.specs.Cmp.Lexicographic.{pointwise}
use Rattle.serde_amqp_values.specs.Compared.{same_pair}
use Rattle.serde_amqp_values.proofs.lexical.equal.Given as goal

abbrev pub invariant-loop-a : goal.invariant-loop-a
invariant-loop-a g l =
    pointwise (same_pair g.K.PartialEq.eq g.V.PartialEq.eq) l.left l.right
    ≡ pointwise (same_pair g.K.PartialEq.eq g.V.PartialEq.eq) l.initial.left l.initial.right

abbrev pub decreases-loop-a : goal.decreases-loop-a
decreases-loop-a g l = length l.left
