use Rattle.std.proofs.Common.{◌≡◌, length}
use Rattle.amqp_endpoint_link_hearing.specs.Unechoed.{lies_in_one}
use Rattle.amqp_endpoint_link_hearing.proofs.unechoed.lies_in_one.Given as goal

abbrev pub invariant-loop-run : goal.invariant-loop-run
invariant-loop-run l = lies_in_one l.number l.rest ≡ lies_in_one l.number l.fn.runs

abbrev pub decreases-loop-run : goal.decreases-loop-run
decreases-loop-run l = length l.rest
