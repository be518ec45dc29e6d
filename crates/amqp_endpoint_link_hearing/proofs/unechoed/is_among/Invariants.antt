use Rattle.std.proofs.Common.{◌≡◌, length}
use Rattle.amqp_endpoint_link_hearing.specs.Unechoed.{handles_in, is_among}
use Rattle.amqp_endpoint_link_hearing.proofs.unechoed.is_among.Given as goal

abbrev pub invariant-loop-first : goal.invariant-loop-first
invariant-loop-first l = is_among l.handle.0 (handles_in l.rest) ≡ is_among l.handle.0 (handles_in l.fn.closings)

abbrev pub decreases-loop-first : goal.decreases-loop-first
decreases-loop-first l = length l.rest
