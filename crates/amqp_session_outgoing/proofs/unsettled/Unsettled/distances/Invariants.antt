use Rattle.std.specs.BTreeSet.{IsOrdered}
use Rattle.std.specs.Ordering.{nat_cmp}
use Rattle.amqp_session_outgoing.proofs.Gathering.{Sound, Complete}
use Rattle.amqp_session_outgoing.proofs.unsettled.Unsettled.distances.Given as goal

abbrev pub invariant-loop-i : goal.invariant-loop-i
invariant-loop-i l = record {
  ordered : IsOrdered nat_cmp l.distances;
  sound : Sound l.self.table l.first l.count l.distances;
  complete : Complete l.self-inside.deliveries.entries l.first l.count l.i l.distances;
}
