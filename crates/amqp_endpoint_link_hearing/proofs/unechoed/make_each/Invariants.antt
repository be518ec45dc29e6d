use Rattle.std.proofs.Common.{◌≡◌, All, length}
use Rattle.amqp_endpoint_link_hearing.specs.Unechoed.{IsMade, handles_behind, handles_in, handles_of}
use Rattle.amqp_endpoint_link_hearing.proofs.unechoed.make_each.Given as goal

-- with those of the deliveries that are left they are all
abbrev pub invariant-loop-delivery : goal.invariant-loop-delivery
invariant-loop-delivery l =
    record {
      handles : handles_behind (handles_in l.closings.items) l.rest ≡ handles_of l.reached;
      made : All (IsMade l.session) l.closings.items;
    }

abbrev pub decreases-loop-delivery : goal.decreases-loop-delivery
decreases-loop-delivery l = length l.rest
