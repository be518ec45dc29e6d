use Rattle.std.proofs.Common.{◌≡◌, ◌≤◌, ◌-◌, [], drop, length, take}
use Rattle.amqp_endpoint_link_calls.specs.Refusing.{first_refused}
use Rattle.amqp_endpoint_link_calls.proofs.refusing.first_refused.Given as goal

-- of those before none is refused
abbrev pub invariant-loop-at : goal.invariant-loop-at
invariant-loop-at l =
    record {
      within : l.at ≤ length l.messages;
      same : first_refused l.receiver l.attached (take l.at l.messages) (drop l.at l.messages)
          ≡ first_refused l.receiver l.attached [] l.messages;
    }

abbrev pub decreases-loop-at : goal.decreases-loop-at
decreases-loop-at l = length l.messages - l.at
