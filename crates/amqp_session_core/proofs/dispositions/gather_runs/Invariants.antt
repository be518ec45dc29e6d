use Rattle.std.proofs.Common.{◌≡◌, take}
use Rattle.amqp_session_core.specs.Echoes.{runs_of}
use Rattle.amqp_session_core.proofs.dispositions.gather_runs.Given as goal

abbrev pub invariant-loop-number : goal.invariant-loop-number
invariant-loop-number l = record {
  runs : l.runs.items ≡ runs_of (take l.number-index l.numbers);
  room : l.runs.capacity ≡ l.fn.runs.capacity;
}
