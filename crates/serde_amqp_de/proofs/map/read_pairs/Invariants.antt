use Rattle.std.proofs.Common.{◌≡◌, ◌-◌, ◌++◌, List, None}
use Rattle.serde_amqp_item.specs.Item.{Item}
use Rattle.serde_amqp_de.specs.Reads.{At, at_of}
use Rattle.serde_amqp_item.specs.Entries.{pair_items}
use Rattle.serde_amqp_de.specs.Maps.{TookPairs, RefusesPairs}
use Rattle.serde_amqp_de.proofs.map.read_pairs.Given as goal

-- what is read of the others completes what was read, and where they are refused all is
abbrev pub invariant-loop : goal.invariant-loop
invariant-loop g l = record {
  element : l.de.element ≡ None;
  took : (end : At) (ys : List (Item × Item)) → TookPairs g.K.Deserialize.take g.V.Deserialize.take (l.count - l.counter) (at_of g.R.Read.rest l.de) end ys
      → TookPairs g.K.Deserialize.take g.V.Deserialize.take l.fn.count (at_of g.R.Read.rest l.fn.de) end (pair_items g.K.Deserialize.item g.V.Deserialize.item l.pairs.items ++ ys);
  refuses : RefusesPairs g.K.Deserialize.take g.V.Deserialize.take (l.count - l.counter) (at_of g.R.Read.rest l.de)
      → RefusesPairs g.K.Deserialize.take g.V.Deserialize.take l.fn.count (at_of g.R.Read.rest l.fn.de);
}
