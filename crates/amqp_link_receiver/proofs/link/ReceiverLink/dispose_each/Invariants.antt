use Rattle.std.proofs.Common.{◌≡◌, length}
use Rattle.amqp_link_receiver.specs.DisposingAll.{each_disposed}
use Rattle.amqp_link_receiver.proofs.link.ReceiverLink.dispose_each.Given as goal

-- once those that are left are disposed of all are
abbrev pub invariant-loop-tag : goal.invariant-loop-tag
invariant-loop-tag l =
    each_disposed l.self l.rest l.states.rest.items l.settled
    ≡ each_disposed l.initial.self l.initial.rest l.initial.states.rest.items l.settled

abbrev pub decreases-loop-tag : goal.decreases-loop-tag
decreases-loop-tag l = length l.rest
