use Rattle.std.proofs.Common.{◌≡◌, length, take}
use Rattle.serde_amqp_read.proofs.fetching.copy_front.Given as goal

abbrev pub invariant-loop-index : goal.invariant-loop-index
invariant-loop-index l = record {
  long : length l.buffer ≡ length l.initial.buffer;
  front : take l.index l.buffer ≡ take l.index l.fetched.items;
}
