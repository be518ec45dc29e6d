use Rattle.serde_amqp_read.specs.Reads.{faultless}
use Rattle.serde_amqp_de.proofs.Heads.{carried}
use Rattle.amqp_link_message.specs.RunLaws.{all_none, all_read}
use Rattle.amqp_link_message.proofs.parts.read_more.Goals as goal

pub returns-in_err-others-clause-refused : goal.returns-in_err-others-clause-refused
returns-in_err-others-clause-refused g c =
    carried faultless c.from_residual-in_err-others.result _ _ _ c.from_residual-in_err-others.ensures.1
    (all_none g.S.Deserialize.take g.T.ReadParts.takes g.S.Deserialize.item g.S.Section.code g.T.ReadParts.least c.args.bytes.now c.in_ok-sections.rest.now c.in_ok-sections.sections.items g.met.S.Section.coded c.requires.below (g.met.T.ReadParts.begins c.requires.in_order) c.in_ok-sections.ensures.ok)
    c.in_err-others.ensures.refused

pub returns-clause-ok : goal.returns-clause-ok
returns-clause-ok g c =
    all_read g.S.Deserialize.take g.T.ReadParts.takes g.S.Deserialize.item c.args.bytes.now c.in_ok-sections.rest.now c.in_ok-sections.sections.items (g.T.ReadParts.parts c.in_ok-others.others) c.in_ok-sections.ensures.ok c.in_ok-others.ensures.ok
