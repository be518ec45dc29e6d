use Rattle.serde_amqp_de.specs.Reads.{at_of}
use Rattle.serde_amqp_values.proofs.Reading.{ordered_took}
use Rattle.serde_amqp_values.proofs.codec.OrderedMapDeserialize.read.Goals as goal

pub returns-clause-ok : goal.returns-clause-ok
returns-clause-ok g c =
    ordered_took g.K.PartialEq.eq g.met.K.Eq.laws g.K.Deserialize.item g.V.Deserialize.item g.met.K.MapKey.equal g.K.Deserialize.take g.V.Deserialize.take c.args.de.now.element (at_of g.R.Read.rest c.args.de.now) (at_of g.R.Read.rest c.read_map.new.de) c.in_ok-pairs.pairs.items c.in_ok-from_pairs.field-0 c.in_ok-pairs.ensures.ok c.in_ok-from_pairs.ensures.value c.in_ok-from_pairs.ensures.apart
