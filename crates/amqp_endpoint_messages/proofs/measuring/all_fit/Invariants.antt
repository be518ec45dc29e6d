use Rattle.std.proofs.Common.{◌≡◌, length}
use Rattle.amqp_endpoint_messages.specs.Longest.{all_fit}
use Rattle.amqp_endpoint_messages.proofs.measuring.all_fit.Given as goal

-- those that are left all fit where all do
abbrev pub invariant-loop-disposition : goal.invariant-loop-disposition
invariant-loop-disposition l = all_fit l.limit l.rest ≡ all_fit l.limit l.fn.told

abbrev pub decreases-loop-disposition : goal.decreases-loop-disposition
decreases-loop-disposition l = length l.rest
