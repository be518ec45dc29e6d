use Rattle.std.proofs.Common.{◌≡◌, ◌++◌, length, map}
use Rattle.amqp_link_receiver.specs.DisposingAll.{run_disposition}
use Rattle.amqp_link_receiver.proofs.disposing_all.dispositions.Given as goal

abbrev pub invariant-loop-run : goal.invariant-loop-run
invariant-loop-run l =
    l.told.items ++ map (run_disposition l.link l.state l.settled) l.rest
    ≡ map (run_disposition l.link l.state l.settled) l.fn.runs

abbrev pub decreases-loop-run : goal.decreases-loop-run
decreases-loop-run l = length l.rest
