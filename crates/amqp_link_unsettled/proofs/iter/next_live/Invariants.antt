use Rattle.std.proofs.Common.{◌≡◌, length}
use Rattle.amqp_link_unsettled.specs.Rising.{standing}
use Rattle.amqp_link_unsettled.proofs.iter.next_live.Given as goal

abbrev pub invariant-loop-tag : goal.invariant-loop-tag
invariant-loop-tag g l = standing l.initial.slots ≡ standing l.slots

abbrev pub decreases-loop-tag : goal.decreases-loop-tag
decreases-loop-tag g l = length l.slots
