use Rattle.std.proofs.Common.{◌≡◌, false, length}
use Rattle.amqp_endpoint_link_calls.specs.Keeping.{one_keeps}
use Rattle.amqp_endpoint_link_calls.proofs.keeping.one_keeps.Given as goal

-- none of the links before keeps it
abbrev pub invariant-loop-number : goal.invariant-loop-number
invariant-loop-number l =
    record {
      end : l.number-end ≡ length (l.links.links);
      none : one_keeps l.talk l.links l.number l.message ≡ false;
    }
