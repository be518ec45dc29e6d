use Rattle.std.proofs.Common.{◌≡◌}
use Rattle.amqp_link_unsettled.specs.Numbers.{tag_with}
use Rattle.amqp_link_unsettled.proofs.rising.first_with.Given as goal

abbrev pub invariant-loop-tag : goal.invariant-loop-tag
invariant-loop-tag g l =
    tag_with g.M.Numbered.number_of l.fn.number l.fn.entries ≡ tag_with g.M.Numbered.number_of l.fn.number l.entries
