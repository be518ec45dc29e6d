use Rattle.std.proofs.Common.{◌≡◌, ◌+◌, ◌≤◌, ◌++◌, reverse}
use Rattle.std.specs.Vec.{vec_len, vec_capacity}
use Rattle.amqp_endpoint_link_calls.specs.Waiting.{by_number}
use Rattle.amqp_endpoint_link_calls.proofs.turns.count_each.Given as goal

abbrev pub invariant-loop-one : goal.invariant-loop-one
invariant-loop-one l = record {
  numbers : l.numbers.items ++ by_number l.session (reverse l.turn.items)
      ≡ l.fn.numbers.items ++ by_number l.session l.fn.turn.items;
  room : vec_len l.numbers + vec_len l.turn ≤ vec_capacity l.numbers;
  capacity : vec_capacity l.numbers ≡ vec_capacity l.fn.numbers;
}

abbrev pub decreases-loop-one : goal.decreases-loop-one
decreases-loop-one l = goal.left-loop-one l
