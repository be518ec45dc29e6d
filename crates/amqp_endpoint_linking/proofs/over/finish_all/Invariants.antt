use Rattle.std.proofs.Common.{◌≡◌, length}
use Rattle.amqp_endpoint_linking.specs.Ending.{FinishesFirst}
use Rattle.amqp_endpoint_linking.proofs.over.finish_all.Given as goal

abbrev pub invariant-loop-number : goal.invariant-loop-number
invariant-loop-number l = record {
  end : l.number-end ≡ length (l.initial.sessions.places);
  finished : FinishesFirst l.number l.initial.sessions l.initial.links l.sessions l.links;
}
