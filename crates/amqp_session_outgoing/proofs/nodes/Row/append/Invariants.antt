use Rattle.std.proofs.Common.{◌≡◌, ◌<◌, ◌+◌, ◌^◌, ◌++◌, length}
use Rattle.amqp_session_outgoing.proofs.nodes.Row.append.Given as goal

abbrev pub invariant-loop-value : goal.invariant-loop-value
invariant-loop-value g l = record {
  values : l.self ++ l.batch.items ≡ l.initial.self ++ l.initial.batch.items;
  room : l.store + length l.initial.batch.items ≡ l.initial.store + length l.batch.items;
  short : length l.self + l.store < 2 ^ 63;
}

abbrev pub decreases-loop-value : goal.decreases-loop-value
decreases-loop-value g l = length l.batch.items
