use Rattle.std.proofs.Common.{◌≡◌}
use Rattle.amqp_session_outgoing.specs.Outside.{outside}
use Rattle.amqp_session_outgoing.proofs.unsettled.Unsettled.settle_each.Given as goal

abbrev pub invariant-loop-distance : goal.invariant-loop-distance
invariant-loop-distance l = record {
  end : l.distance-end ≡ l.range.count;
  left : l.self ≡ record { table = outside (record { first = l.range.first; count = l.distance }) l.initial.self.table; room = l.initial.self.room };
}
