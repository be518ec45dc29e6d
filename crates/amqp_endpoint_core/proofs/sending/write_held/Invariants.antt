use Rattle.std.proofs.Common.{length}
use Rattle.amqp_endpoint_core.specs.Moves.{Writes}
use Rattle.amqp_endpoint_core.proofs.sending.write_held.Given as goal

abbrev pub invariant-loop-output : goal.invariant-loop-output
invariant-loop-output g l = record {
  writes : Writes (g.W.Write.contents l.initial.writer) (g.W.Write.contents l.writer)
      l.initial.output.items l.output.items;
}

abbrev pub decreases-loop-output : goal.decreases-loop-output
decreases-loop-output g l = length l.output.items
