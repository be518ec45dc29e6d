use Rattle.serde_amqp_de.specs.Reads.{at_of}
use Rattle.serde_amqp_de.proofs.Sorting.{sorted_took}
use Rattle.serde_amqp_de.proofs.sorted.BTreeMapDeserialize.read.Goals as goal

pub returns-clause-ok : goal.returns-clause-ok
returns-clause-ok g c =
    sorted_took g.K.Ord.cmp g.K.Deserialize.item g.V.Deserialize.item g.met.K.Ord.total g.met.K.SortedKey.ordered g.K.Deserialize.take g.V.Deserialize.take c.args.de.now.element (at_of g.R.Read.rest c.args.de.now) (at_of g.R.Read.rest c.read_map.new.de) c.in_ok-pairs.pairs.items c.in_ok-sort.field-0.entries c.in_ok-pairs.ensures.ok c.in_ok-sort.ensures
