use Rattle.std.proofs.Common.{[]}
use Rattle.std.proofs.lemmas.Result.{err_from_is_err_and}
use Rattle.amqp_endpoint_core.specs.Turns.{caller}
use Rattle.amqp_endpoint_core.proofs.TurnLaws.{comes_on, comes_to_end, comes_to_refusal}
use Rattle.amqp_endpoint_core.proofs.turning.serve.Goals as goal

pub loop-turn-preserved : goal.loop-turn-preserved
loop-turn-preserved g c =
    let s = c.loop-turn in
    record {
      go_on =
          comes_on g.S.SessionRelay.does g.P.Program.reacts s._turn
          (caller c.args.program.now c.args.endpoint.now [] (g.R.Read.remaining c.args.reader.now)
          (g.W.Write.contents c.args.writer.now))
          (caller s.program s.endpoint s.output.items (g.R.Read.remaining s.reader) (g.W.Write.contents s.writer))
          (caller c.turn.new.program c.turn.new.endpoint c.turn.new.output.items
          (g.R.Read.remaining c.turn.new.reader) (g.W.Write.contents c.turn.new.writer))
          c.in_ok-turn.field-0 s.invariant.go_on c.in_ok-turn.ensures.turn c.if-not-branch.false;
    }

pub returns-then-not-branch-clause-turns : goal.returns-then-not-branch-clause-turns
returns-then-not-branch-clause-turns g c =
    let s = c.loop-turn in (
      c.turn.new.output.items,
      comes_to_end g.S.SessionRelay.does g.P.Program.reacts s._turn
          (caller c.args.program.now c.args.endpoint.now [] (g.R.Read.remaining c.args.reader.now)
          (g.W.Write.contents c.args.writer.now))
          (caller s.program s.endpoint s.output.items (g.R.Read.remaining s.reader) (g.W.Write.contents s.writer))
          (caller c.turn.new.program c.turn.new.endpoint c.turn.new.output.items
          (g.R.Read.remaining c.turn.new.reader) (g.W.Write.contents c.turn.new.writer))
          c.in_ok-turn.field-0 s.invariant.go_on c.loop-turn-test.true c.in_ok-turn.ensures.turn
          c.if-not-branch.true,
    )

pub returns-in_err-turn-clause-turns : goal.returns-in_err-turn-clause-turns
returns-in_err-turn-clause-turns g c =
    let s = c.loop-turn in
    let (d, is, same) = err_from_is_err_and c.from_residual.result c.from_residual.ensures.1 in (
      c.turn.new.output.items,
      comes_to_refusal g.S.SessionRelay.does g.P.Program.reacts s._turn
          (caller c.args.program.now c.args.endpoint.now [] (g.R.Read.remaining c.args.reader.now)
          (g.W.Write.contents c.args.writer.now))
          (caller s.program s.endpoint s.output.items (g.R.Read.remaining s.reader) (g.W.Write.contents s.writer))
          (caller c.turn.new.program c.turn.new.endpoint c.turn.new.output.items
          (g.R.Read.remaining c.turn.new.reader) (g.W.Write.contents c.turn.new.writer))
          c.in_err-turn.field-0.0 d c.from_residual.result s.invariant.go_on c.loop-turn-test.true
          c.in_err-turn.ensures.turn is same,
    )
