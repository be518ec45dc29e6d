use Rattle.serde_amqp_read.specs.Reads.{faultless}
use Rattle.serde_amqp_de.proofs.Heads.{carried}
use Rattle.amqp_link_message.specs.PartLaws.{one_none, one_read, one_missing}
use Rattle.amqp_link_message.specs.RunLaws.{front_there, front_absent}
use Rattle.amqp_link_message.proofs.parts.read_one.Goals as goal

pub returns-in_err-others-in-Some-clause-refused :
    goal.returns-in_err-others-in-Some-clause-refused
returns-in_err-others-in-Some-clause-refused g c =
    let h = front_there g.S.Deserialize.take g.S.Deserialize.item c.args.bytes.now c.in_ok-section.rest.now c.in_ok-section.section c.in-Some.section c.in-Some.is c.in_ok-section.ensures.ok in
    carried faultless c.from_residual-in_err-others-in-Some.result _ _ _ c.from_residual-in_err-others-in-Some.ensures.1
    (one_none g.S.Deserialize.take g.T.ReadParts.takes c.args.bytes.now c.in_ok-section.rest.now (g.S.Deserialize.item c.in-Some.section) h)
    c.in_err-others-in-Some.ensures.refused

pub returns-in_ok-others-in-Some-clause-ok : goal.returns-in_ok-others-in-Some-clause-ok
returns-in_ok-others-in-Some-clause-ok g c =
    let h = front_there g.S.Deserialize.take g.S.Deserialize.item c.args.bytes.now c.in_ok-section.rest.now c.in_ok-section.section c.in-Some.section c.in-Some.is c.in_ok-section.ensures.ok in
    one_read g.S.Deserialize.take g.T.ReadParts.takes c.args.bytes.now c.in_ok-section.rest.now (g.S.Deserialize.item c.in-Some.section) (g.T.ReadParts.parts c.in_ok-others-in-Some.others) h c.in_ok-others-in-Some.ensures.ok

pub returns-in-None-clause-refused : goal.returns-in-None-clause-refused
returns-in-None-clause-refused g c =
    one_missing g.S.Deserialize.take g.T.ReadParts.takes c.args.bytes.now
    (front_absent g.S.Deserialize.take g.S.Deserialize.item c.args.bytes.now c.in_ok-section.rest.now c.in_ok-section.section c.in-None.is c.in_ok-section.ensures.ok)
