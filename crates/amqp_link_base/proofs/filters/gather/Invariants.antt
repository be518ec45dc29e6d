use Rattle.std.proofs.Common.{◌≡◌, ◌++◌, length, []}
use Rattle.amqp_link_base.specs.Source.{unsupported, filters_of}
use Rattle.amqp_link_base.proofs.filters.gather.Given as goal

-- the names that are gathered with those that are left are all; and none is left where there are none at all
abbrev pub invariant-loop-name : goal.invariant-loop-name
invariant-loop-name l = record {
  gathered : l.names.items ++ unsupported l.wanted (filters_of l.in_place) ≡ l.initial.names.items ++ unsupported l.initial.wanted (filters_of l.in_place);
  none_left : unsupported l.initial.wanted (filters_of l.in_place) ≡ [] → unsupported l.wanted (filters_of l.in_place) ≡ [];
}

abbrev pub decreases-loop-name : goal.decreases-loop-name
decreases-loop-name l = length l.wanted
