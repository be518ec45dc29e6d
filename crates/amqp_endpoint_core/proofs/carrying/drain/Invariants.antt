use Rattle.std.proofs.Common.{◌≡◌, ◌++◌, length}
use Rattle.amqp_session_frames.specs.Cutting.{joined}
use Rattle.amqp_endpoint_core.specs.WorldSaid.{texts}
use Rattle.amqp_endpoint_core.specs.WorldStep.{Drains}
use Rattle.amqp_endpoint_core.proofs.carrying.drain.Given as goal

abbrev pub invariant-loop : goal.invariant-loop
invariant-loop g l = record {
  drains : Drains l.initial.from (texts l.pulled.items) l.from;
  stream : l.stream.items ≡ l.initial.stream.items ++ joined (texts l.pulled.items);
}

abbrev pub decreases-loop : goal.decreases-loop
decreases-loop g l = length l.from.queue
