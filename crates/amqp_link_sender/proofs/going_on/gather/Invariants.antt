use Rattle.std.proofs.Common.{◌≡◌, ◌++◌, length}
use Rattle.std.specs.VecDeque.Iter.{deque_iter_rest}
use Rattle.amqp_link_sender.specs.SendsOn.{going_on}
use Rattle.amqp_link_sender.proofs.going_on.gather.Given as goal

-- what is ready with what goes on of those that are left is all
abbrev pub invariant-loop-waiting : goal.invariant-loop-waiting
invariant-loop-waiting l =
    l.ready.items ++ going_on l.messages (deque_iter_rest l.rest) l.left
    ≡ l.initial.ready.items ++ going_on l.messages (deque_iter_rest l.initial.rest) l.initial.left

abbrev pub decreases-loop-waiting : goal.decreases-loop-waiting
decreases-loop-waiting l = length (deque_iter_rest l.rest)
