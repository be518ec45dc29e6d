use Rattle.std.proofs.Common.{◌≡◌, [], length}
use Rattle.amqp_endpoint_core.specs.Moves.{Sends}
use Rattle.amqp_endpoint_core.proofs.sending.write_out.Given as goal

abbrev pub invariant-loop-output : goal.invariant-loop-output
invariant-loop-output g l = record {
  sends : Sends (g.W.Write.contents l.fn.writer) (g.W.Write.contents l.writer)
      l.fn.endpoint l.fn.output.items l.endpoint l.output.items;
  empty : l.output.items ≡ [];
}

abbrev pub decreases-loop-output : goal.decreases-loop-output
decreases-loop-output g l = length l.endpoint.queue
