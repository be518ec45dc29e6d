use Rattle.std.proofs.Common.{◌≡◌, ◌+◌, length}
use Rattle.amqp_endpoint_link_hearing.specs.Unechoed.{told_most}
use Rattle.amqp_endpoint_link_hearing.proofs.unechoed.told_most.Given as goal

abbrev pub invariant-loop-closing : goal.invariant-loop-closing
invariant-loop-closing l = l.most + told_most l.rest ≡ told_most l.fn.closings

abbrev pub decreases-loop-closing : goal.decreases-loop-closing
decreases-loop-closing l = length l.rest
