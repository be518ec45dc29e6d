use Rattle.std.proofs.Common.{◌≡◌, ◌≤◌, take, length, All, vec_len, vec_capacity}
use Rattle.amqp_session_core.specs.Disposing.{StandsIn, each_number}
use Rattle.amqp_session_core.proofs.dispositions.tell_touched.Given as goal

abbrev pub invariant-loop-number : goal.invariant-loop-number
invariant-loop-number l = record {
  numbers : each_number l.touched.items ≡ take l.number-index l.numbers;
  deliveries : All (StandsIn l.deliveries.table) l.touched.items;
  count : vec_len l.touched ≡ l.number-index;
  room : length l.numbers ≤ vec_capacity l.touched;
}
