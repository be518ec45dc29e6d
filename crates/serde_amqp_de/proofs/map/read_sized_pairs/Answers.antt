use Rattle.serde_amqp_de.specs.Reads.{at_of}
use Rattle.serde_amqp_item.specs.Entries.{pair_items}
use Rattle.serde_amqp_de.proofs.Pairs.{pairs_sized}
use Rattle.serde_amqp_de.proofs.map.read_sized_pairs.Goals as goal

pub returns-clause-ok : goal.returns-clause-ok
returns-clause-ok g c =
    pairs_sized g.K.Deserialize.take g.V.Deserialize.take c.args.count c.args.size (at_of g.R.Read.rest c.args.de.now) (at_of g.R.Read.rest c.read_pairs.new.de) (pair_items g.K.Deserialize.item g.V.Deserialize.item c.in_ok-pairs.pairs.items) c.in_ok-pairs.ensures.ok (rw (c.pos.ensures, c.pos-start.ensures) at c.if-pos-start.false)
