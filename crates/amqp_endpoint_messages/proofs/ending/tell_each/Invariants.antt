use Rattle.std.proofs.Common.{◌≡◌, ◌+◌, ◌≤◌, ◌++◌, Option, drop, take}
use Rattle.std.specs.Vec.{vec_capacity, vec_len}
use Rattle.amqp_session_types.specs.declared.error.Error.{Error}
use Rattle.amqp_endpoint_messages.specs.All.{AreCopies, all_told, with_ended}
use Rattle.amqp_endpoint_messages.proofs.ending.tell_each.Given as goal

-- those that are left are told with those that were told before, and there are room and copies for them
abbrev pub invariant-loop-left : goal.invariant-loop-left
invariant-loop-left l =
    record {
      room : vec_len l.events + l.left ≤ vec_capacity l.events;
      few : vec_len l.events + l.left ≤ vec_len l.fn.events + l.count;
      capacity : vec_capacity l.events ≡ vec_capacity l.fn.events;
      state : with_ended l.sender (drop l.left l.sender.messages.resolved)
          ≡ with_ended l.fn.sender (drop l.count l.fn.sender.messages.resolved);
      told : (error : Option Error) → AreCopies error l.count l.fn.copies.items
          → AreCopies error l.left l.each.rest.items
          × (l.events.items ++ all_told l.number error (take l.left l.sender.messages.resolved)
          ≡ l.fn.events.items ++ all_told l.number error (take l.count l.fn.sender.messages.resolved));
    }

abbrev pub decreases-loop-left : goal.decreases-loop-left
decreases-loop-left l = l.left
