use Rattle.std.proofs.Common.{◌≡◌, length}
use Rattle.amqp_link_unsettled.specs.Exchanging.{with_messages}
use Rattle.amqp_link_unsettled.proofs.exchanging.gather.Given as goal

-- what is gathered with those that are left is all
abbrev pub invariant-loop-tag : goal.invariant-loop-tag
invariant-loop-tag l =
    with_messages l.listed l.incomplete l.gathering l.entries
    ≡ with_messages l.listed l.incomplete l.initial.gathering l.initial.entries

abbrev pub decreases-loop-tag : goal.decreases-loop-tag
decreases-loop-tag l = length l.entries
