use Rattle.std.proofs.Common.{◌≡◌, All, ◌≤◌}
use Rattle.smallvec.specs.SmallVec.{small_vec_len}
use Rattle.amqp_session_core.proofs.dispositions.copies.Given as goal

abbrev pub invariant-loop : goal.invariant-loop
invariant-loop l = record {
  each : All (λ s. s ≡ l.state) l.states.items;
  count : small_vec_len l.states ≡ l.counter;
  room : l.count ≤ l.states.capacity;
}
