use Rattle.std.proofs.Common.{ap, sym, ◌∙◌, length, ◌<◌, ◌≤◌, take, get_or, arith}
use Rattle.amqp_session_core.specs.Echoes.{runs_of}
use Rattle.amqp_session_core.specs.Disposing.{behind_runs}
use Rattle.amqp_session_core.proofs.Running.{Runs, runs-next, runs-so-far}
use Rattle.amqp_session_core.proofs.dispositions.gather_runs.Goals as goal

pub add_to_runs-requires : goal.add_to_runs-requires
add_to_runs-requires c =
    let i = c.loop-number.number-index in
    let ns = c.args.numbers.now in
    let lt : i < length ns = c.loop-number-test.true in
    let few : length (runs_of (take i ns)) ≤ i = runs-so-far ns i (omega arith) in
    record { room = omega (arith, few, ap (λ (rs : Runs). length rs) c.loop-number.invariant.runs) }

pub loop-number-preserved : goal.loop-number-preserved
loop-number-preserved c =
    let i = c.loop-number.number-index in
    let ns = c.args.numbers.now in
    record {
      runs =
          c.add_to_runs.ensures.added
          ∙ ap (λ (rs : Runs). behind_runs rs (get_or ns i 0)) c.loop-number.invariant.runs
          ∙ sym (runs-next ns i c.loop-number-test.true);
      room = c.add_to_runs.ensures.room ∙ c.loop-number.invariant.room;
    }
