use Rattle.std.proofs.Common.{◌≡◌, ◌++◌, length}
use Rattle.std.specs.Prelude.{map}
use Rattle.amqp_endpoint_messages.specs.GivingUp.{all_fit, batch_of, fitting}
use Rattle.amqp_endpoint_messages.proofs.giving_up.make_giving_up.Given as goal

-- those that are made ready with those that are left are all
abbrev pub invariant-loop-abort : goal.invariant-loop-abort
invariant-loop-abort l =
    record {
      these : l.batches.items ++ map (batch_of l.handle) (fitting l.limit l.handle l.rest)
          ≡ map (batch_of l.handle) (fitting l.limit l.handle l.initial.rest);
      whether : all_fit l.limit l.handle l.rest ≡ all_fit l.limit l.handle l.initial.rest;
    }

abbrev pub decreases-loop-abort : goal.decreases-loop-abort
decreases-loop-abort l = length l.rest
