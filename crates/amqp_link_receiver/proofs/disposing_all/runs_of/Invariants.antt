use Rattle.std.proofs.Common.{◌≡◌, ◌++◌, length}
use Rattle.amqp_link_receiver.specs.DisposingAll.{runs_from, runs_of}
use Rattle.amqp_link_receiver.proofs.disposing_all.runs_of.Given as goal

-- the runs that are found with those of what is left are all
abbrev pub invariant-loop-delivery : goal.invariant-loop-delivery
invariant-loop-delivery l = l.runs.items ++ runs_from l.run l.rest ≡ runs_of l.fn.deliveries

abbrev pub decreases-loop-delivery : goal.decreases-loop-delivery
decreases-loop-delivery l = length l.rest
