use Rattle.std.proofs.Common.{◌≡◌, ◌+◌, ◌≤◌, All, Some, length}
use Rattle.std.specs.Vec.{vec_capacity, vec_len}
use Rattle.amqp_session_types.specs.declared.error.Error.{Error}
use Rattle.amqp_endpoint_link_hearing.proofs.detaching.copies_for.Given as goal

-- those that are there are copies, and there is room for those that are left
abbrev pub invariant-loop-left : goal.invariant-loop-left
invariant-loop-left l =
    record {
      each : All (λ (copy : Error). Some l.error ≡ Some copy) l.copies.items;
      all : length l.copies.items + l.left ≡ l.count;
      room : vec_len l.copies + l.left ≤ vec_capacity l.copies;
    }

abbrev pub decreases-loop-left : goal.decreases-loop-left
decreases-loop-left l = l.left
