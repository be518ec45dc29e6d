use Rattle.std.proofs.Common.{◌≡◌, ◌+◌, ◌≤◌, ◌++◌, ◌-◌, length, map, take}
use Rattle.amqp_endpoint_core.specs.Queue.{texts_of}
use Rattle.amqp_endpoint_core.proofs.batch.append_first.Given as goal

abbrev pub invariant-loop-next : goal.invariant-loop-next
invariant-loop-next g l = record {
  there : l.count ≤ length l.waiting.items;
  room : length (texts_of (take l.count (map g.W.Waits.waits l.waiting.items))) + l.room ≡ l.most;
  appended : l.bytes.items
      ≡ l.initial.bytes.items ++ texts_of (take l.count (map g.W.Waits.waits l.waiting.items));
}

abbrev pub decreases-loop-next : goal.decreases-loop-next
decreases-loop-next g l = length l.waiting.items - l.count
