use Rattle.std.proofs.Common.{◌≡◌, All, vec_len, vec_capacity, ◌≤◌}
use Rattle.amqp_endpoint_messages.proofs.echoing.copies.Given as goal

abbrev pub invariant-loop : goal.invariant-loop
invariant-loop l =
    record {
      each : All (λ s. s ≡ l.state) l.copies.items;
      count : vec_len l.copies ≡ l.counter;
      room : l.count ≤ vec_capacity l.copies;
    }
