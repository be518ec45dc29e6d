use Rattle.std.proofs.Common.{◌≡◌}
use Rattle.amqp_session_outgoing.specs.Touched.{Touches}
use Rattle.amqp_session_outgoing.proofs.unsettled.Unsettled.walked.Given as goal

abbrev pub invariant-loop-distance : goal.invariant-loop-distance
invariant-loop-distance l = record {
  end : l.distance-end ≡ l.range.count;
  walked : Touches (record { first = l.range.first; count = l.distance }) l.self.table l.numbers.items;
}
