use Rattle.std.proofs.Common.{◌≡◌, ◌≤◌, take, map, length, vec_len, vec_capacity}
use Rattle.amqp_session_core.specs.Echoes.{echo_of}
use Rattle.amqp_session_core.proofs.dispositions.echoes.Given as goal

abbrev pub invariant-loop-run : goal.invariant-loop-run
invariant-loop-run l = record {
  echoes : l.echoes.items ≡ map (echo_of l.disposition) (take l.run-index l.runs);
  count : vec_len l.echoes ≡ l.run-index;
  room : length l.runs ≤ vec_capacity l.echoes;
}
