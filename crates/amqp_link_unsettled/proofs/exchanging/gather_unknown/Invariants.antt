use Rattle.std.proofs.Common.{◌≡◌, ◌++◌, length}
use Rattle.amqp_link_unsettled.specs.Exchanging.{unknown}
use Rattle.amqp_link_unsettled.proofs.exchanging.gather_unknown.Given as goal

-- what is given up with what is left is all
abbrev pub invariant-loop-tag : goal.invariant-loop-tag
invariant-loop-tag l =
    l.given_up.items ++ unknown l.messages l.list ≡ l.initial.given_up.items ++ unknown l.messages l.initial.list

abbrev pub decreases-loop-tag : goal.decreases-loop-tag
decreases-loop-tag l = length l.list
