use Rattle.std.proofs.Common.{◌≡◌, drop}
use Rattle.std.specs.VecDeque.{deque_len}
use Rattle.amqp_endpoint_attached.specs.Linked.{Linked}
use Rattle.amqp_endpoint_linking.specs.Linking.{Links}
use Rattle.amqp_endpoint_link_hearing.specs.Flowing.{LeaveWith}
use Rattle.amqp_endpoint_link_hearing.proofs.flowing.leave_with_each.Given as goal

-- once those left that leave with the frames behind, all did
abbrev pub invariant-loop-i : goal.invariant-loop-i
invariant-loop-i l =
    record {
      end : l.i-end ≡ deque_len l.frames;
      leave : (s : Linked) (links : Links) → LeaveWith (drop l.i l.frames.items) l.session l.links s links
          → LeaveWith (drop l.from l.frames.items) l.initial.session l.initial.links s links;
    }
