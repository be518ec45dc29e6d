use Rattle.std.proofs.Common.{◌≡◌, List, ◌++◌, ℕ, length}
use Rattle.std.specs.Prelude.{map}
use Rattle.amqp_session_outgoing.specs.Touched.{number_at}
use Rattle.amqp_session_outgoing.proofs.unsettled.Unsettled.gathered.Given as goal

abbrev pub invariant-loop-distance : goal.invariant-loop-distance
invariant-loop-distance l = (taken : List ℕ) × (l.initial.distances.keys ≡ taken ++ l.distances.keys) × (l.numbers.items ≡ map (number_at l.range.first) taken)

abbrev pub decreases-loop-distance : goal.decreases-loop-distance
decreases-loop-distance l = length l.distances.keys
