use Rattle.std.proofs.Common.{◌≡◌, length}
use Rattle.amqp_link_unsettled.specs.Numbers.{tag_with}
use Rattle.amqp_link_unsettled.specs.Rising.{Rising, standing}
use Rattle.amqp_link_unsettled.proofs.rising.search.Given as goal

-- the delivery is among those that are left, and their numbers rise
abbrev pub invariant-loop-rest : goal.invariant-loop-rest
invariant-loop-rest g l = record {
  same : tag_with g.M.Numbered.number_of l.fn.number (standing l.rest) ≡ tag_with g.M.Numbered.number_of l.fn.number (standing l.fn.slots);
  rises : Rising g.M.Numbered.number_of l.rest;
}

abbrev pub decreases-loop-rest : goal.decreases-loop-rest
decreases-loop-rest g l = length l.rest
