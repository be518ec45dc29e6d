use Rattle.std.proofs.Common.{◌≡◌, length}
use Rattle.std.specs.Str.{bytes_eq}
use Rattle.serde_amqp_types.proofs.bytes.are_same.Given as goal

abbrev pub invariant-loop-x : goal.invariant-loop-x
invariant-loop-x l = bytes_eq l.left l.right ≡ bytes_eq l.initial.one l.initial.other

abbrev pub decreases-loop-x : goal.decreases-loop-x
decreases-loop-x l = length l.left
