use Rattle.std.proofs.Common.{◌≡◌, length}
use Rattle.amqp_endpoint_link_calls.specs.Refusing.{is_among}
use Rattle.amqp_endpoint_link_calls.proofs.refusing.is_among.Given as goal

abbrev pub invariant-loop-first : goal.invariant-loop-first
invariant-loop-first l = is_among l.message l.rest ≡ is_among l.message l.fn.before

abbrev pub decreases-loop-first : goal.decreases-loop-first
decreases-loop-first l = length l.rest
