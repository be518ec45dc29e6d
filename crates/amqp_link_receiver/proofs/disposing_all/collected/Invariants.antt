use Rattle.std.proofs.Common.{◌≡◌, ◌++◌, length, map}
use Rattle.amqp_link_receiver.proofs.disposing_all.collected.Given as goal

abbrev pub invariant-loop-delivery : goal.invariant-loop-delivery
invariant-loop-delivery l =
    l.deliveries.items ++ map (λ e. e.1) l.rest ≡ l.initial.deliveries.items ++ map (λ e. e.1) l.initial.rest

abbrev pub decreases-loop-delivery : goal.decreases-loop-delivery
decreases-loop-delivery l = length l.rest
