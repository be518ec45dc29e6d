use Rattle.std.proofs.Common.{◌≡◌, ℕ, ◌+◌, List, ◌++◌, length, map, reverse}
use Rattle.std.specs.Map.{keys_of}
use Rattle.std.specs.VecDeque.{deque_len, deque_capacity}
use Rattle.amqp_link_unsettled.specs.declared.resolution.Resolution.TheVariants.{Failed}
use Rattle.amqp_link_unsettled.proofs.messages.fail_all.Given as goal

abbrev pub invariant-loop-tag : goal.invariant-loop-tag
invariant-loop-tag l =
    record {
      handed : l.resolved.items ++ map (λ (tag : List ℕ). (tag, Failed l.failure)) (reverse (keys_of l.unsettled.entries))
          ≡ l.fn.resolved.items ++ map (λ (tag : List ℕ). (tag, Failed l.failure)) (keys_of l.fn.unsettled.entries);
      room : l.unsettled.room ≡ l.fn.unsettled.room;
      capacity : deque_capacity l.resolved ≡ deque_capacity l.fn.resolved;
      count : deque_len l.resolved + length l.unsettled.entries ≡ deque_len l.fn.resolved + length l.fn.unsettled.entries;
    }

abbrev pub decreases-loop-tag : goal.decreases-loop-tag
decreases-loop-tag l = length l.unsettled.entries
