use Rattle.std.proofs.Common.{◌≡◌, length}
use Rattle.amqp_endpoint_link_hearing.specs.Unechoed.{has_one}
use Rattle.amqp_endpoint_link_hearing.proofs.unechoed.has_one.Given as goal

abbrev pub invariant-loop-delivery : goal.invariant-loop-delivery
invariant-loop-delivery l = has_one l.barred l.handle.0 l.rest ≡ has_one l.barred l.handle.0 l.fn.reached

abbrev pub decreases-loop-delivery : goal.decreases-loop-delivery
decreases-loop-delivery l = length l.rest
