use Rattle.std.proofs.Common.{◌≡◌, ◌<◌, [], length}
use Rattle.amqp_endpoint_core.specs.Turns.{GoesOnFor, caller}
use Rattle.amqp_endpoint_core.proofs.turning.serve.Given as goal

abbrev pub invariant-loop-turn : goal.invariant-loop-turn
invariant-loop-turn g l = record {
  go_on : GoesOnFor g.S.SessionRelay.does g.P.Program.reacts l._turn
      (caller l.fn.program l.fn.endpoint [] (g.R.Read.remaining l.fn.reader) (g.W.Write.contents l.fn.writer))
      (caller l.program l.endpoint l.output.items (g.R.Read.remaining l.reader) (g.W.Write.contents l.writer));
}
