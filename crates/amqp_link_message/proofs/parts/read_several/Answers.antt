use Rattle.std.proofs.Common.{map}
use Rattle.serde_amqp_read.specs.Reads.{faultless}
use Rattle.serde_amqp_de.proofs.Heads.{carried}
use Rattle.amqp_link_message.specs.RunLaws.{front_there, first_read}
use Rattle.amqp_link_message.specs.AnyBodyLaws.{not_several}
use Rattle.amqp_link_message.proofs.parts.read_several.Goals as goal

pub returns-in_err-others-in-Some-clause-refused :
    goal.returns-in_err-others-in-Some-clause-refused
returns-in_err-others-in-Some-clause-refused g c =
    let h = front_there g.S.Deserialize.take g.S.Deserialize.item c.args.bytes.now c.in_ok-section.rest.now c.in_ok-section.section c.in-Some.first c.in-Some.is c.in_ok-section.ensures.ok in
    carried faultless c.from_residual-in_err-others-in-Some.result _ _ _ c.from_residual-in_err-others-in-Some.ensures.1
    (not_several g.S.Deserialize.take g.T.ReadParts.takes c.args.bytes.now c.in_ok-section.rest.now (g.S.Deserialize.item c.in-Some.first) h)
    c.in_err-others-in-Some.ensures.refused

pub returns-in_ok-others-in-Some-clause-some : goal.returns-in_ok-others-in-Some-clause-some
returns-in_ok-others-in-Some-clause-some g c =
    let h = front_there g.S.Deserialize.take g.S.Deserialize.item c.args.bytes.now c.in_ok-section.rest.now c.in_ok-section.section c.in-Some.first c.in-Some.is c.in_ok-section.ensures.ok in
    first_read g.S.Deserialize.take g.T.ReadParts.takes c.args.bytes.now c.in_ok-section.rest.now (g.S.Deserialize.item c.in-Some.first) (map g.S.Deserialize.item c.in_ok-others-in-Some.others.items)
    (g.T.ReadParts.parts c.in_ok-others-in-Some.behind) h c.in_ok-others-in-Some.ensures.ok
