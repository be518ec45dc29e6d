use Rattle.std.proofs.Common.{◌≡◌, []}
use Rattle.serde_amqp_item.specs.Entries.{all_placed}
use Rattle.serde_amqp_de.proofs.sorted.sort.Given as goal

abbrev pub invariant-loop-key : goal.invariant-loop-key
invariant-loop-key g l = all_placed g.K.Ord.cmp l.sorted.entries l.key-iterator.rest.items ≡ all_placed g.K.Ord.cmp [] l.fn.pairs.items
