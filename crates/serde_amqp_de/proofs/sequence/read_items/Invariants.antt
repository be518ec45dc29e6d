use Rattle.std.proofs.Common.{◌≡◌, ◌-◌, ◌++◌, List, map}
use Rattle.serde_amqp_item.specs.Item.{Item}
use Rattle.serde_amqp_de.specs.Reads.{At, at_of, TookAll, RefusesAll}
use Rattle.serde_amqp_de.specs.Takes.{each_taken}
use Rattle.serde_amqp_de.proofs.sequence.read_items.Given as goal

-- what is read of the others completes what was read, and where they are refused all is
abbrev pub invariant-loop : goal.invariant-loop
invariant-loop g l = record {
  element : l.de.element ≡ l.fn.de.element;
  took : (end : At) (ys : List Item) → TookAll (each_taken g.T.Deserialize.take) (l.count - l.counter) l.fn.de.element (at_of g.R.Read.rest l.de) end ys
      → TookAll (each_taken g.T.Deserialize.take) l.fn.count l.fn.de.element (at_of g.R.Read.rest l.fn.de) end (map g.T.Deserialize.item l.values.items ++ ys);
  refuses : RefusesAll (each_taken g.T.Deserialize.take) (l.count - l.counter) l.fn.de.element (at_of g.R.Read.rest l.de)
      → RefusesAll (each_taken g.T.Deserialize.take) l.fn.count l.fn.de.element (at_of g.R.Read.rest l.fn.de);
}
