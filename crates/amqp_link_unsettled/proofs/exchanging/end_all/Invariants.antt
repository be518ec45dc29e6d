use Rattle.std.proofs.Common.{◌≡◌, length}
use Rattle.amqp_link_unsettled.specs.Exchanging.{all_ended}
use Rattle.amqp_link_unsettled.proofs.exchanging.end_all.Given as goal

-- once those that are left have ended all have
abbrev pub invariant-loop-tag : goal.invariant-loop-tag
invariant-loop-tag l = all_ended l.messages l.ended.items ≡ all_ended l.initial.messages l.initial.ended.items

abbrev pub decreases-loop-tag : goal.decreases-loop-tag
decreases-loop-tag l = length l.ended.items
