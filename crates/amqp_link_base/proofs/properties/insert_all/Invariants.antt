use Rattle.std.proofs.Common.{◌≡◌, length}
use Rattle.std.specs.Str.{bytes_eq}
use Rattle.serde_amqp_values.specs.Pairs.{all_inserted}
use Rattle.amqp_link_base.proofs.properties.insert_all.Given as goal

abbrev pub invariant-loop-name : goal.invariant-loop-name
invariant-loop-name l =
    all_inserted bytes_eq l.properties l.more ≡ all_inserted bytes_eq l.initial.properties l.initial.more

abbrev pub decreases-loop-name : goal.decreases-loop-name
decreases-loop-name l = length l.more
