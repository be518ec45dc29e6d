use Rattle.serde_amqp_read.specs.Reads.{faultless}
use Rattle.serde_amqp_de.proofs.Heads.{carried}
use Rattle.amqp_link_message.specs.PartLaws.{part_none_in_order, part_read}
use Rattle.amqp_link_message.proofs.parts.Tuple2OptionReadParts.read.Goals as goal

pub returns-in_err-others-clause-refused : goal.returns-in_err-others-clause-refused
returns-in_err-others-clause-refused g c =
    carried faultless c.from_residual-in_err-others.result _ _ _ c.from_residual-in_err-others.ensures.1
    (part_none_in_order g.S.Deserialize.item g.S.Deserialize.take g.T.ReadParts.takes g.S.Section.code g.T.ReadParts.least g.T.ReadParts.in_order c.args.bytes.now c.in_ok-section.rest.now c.in_ok-section.section g.met.S.Section.coded g.met.T.ReadParts.begins c.requires c.in_ok-section.ensures.ok)
    c.in_err-others.ensures.refused

pub returns-clause-ok : goal.returns-clause-ok
returns-clause-ok g c =
    part_read g.S.Deserialize.item g.S.Deserialize.take g.T.ReadParts.takes c.args.bytes.now c.in_ok-section.rest.now c.in_ok-section.section (g.T.ReadParts.parts c.in_ok-others.others) c.in_ok-section.ensures.ok c.in_ok-others.ensures.ok
