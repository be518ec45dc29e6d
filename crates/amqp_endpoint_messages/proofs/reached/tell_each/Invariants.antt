use Rattle.std.proofs.Common.{◌≡◌, ◌+◌, ◌≤◌, ◌++◌, drop, length, vec_len, vec_capacity}
use Rattle.amqp_endpoint_messages.specs.Reached.{behind_reached, reached_told}
use Rattle.amqp_endpoint_messages.proofs.reached.tell_each.Given as goal

-- what is told and what is left to be told, together, are all that is told
abbrev pub invariant-loop-delivery : goal.invariant-loop-delivery
invariant-loop-delivery l =
    record {
      told : l.events.items ++ reached_told l.session (drop l.delivery-index l.reached)
          ≡ l.fn.events.items ++ reached_told l.fn.session l.reached;
      behind : behind_reached l.session (drop l.delivery-index l.reached) ≡ behind_reached l.fn.session l.reached;
      room : vec_len l.events + length l.reached ≤ vec_capacity l.events + l.delivery-index;
      few : vec_len l.events ≤ vec_len l.fn.events + l.delivery-index;
      capacity : vec_capacity l.events ≡ vec_capacity l.fn.events;
    }
