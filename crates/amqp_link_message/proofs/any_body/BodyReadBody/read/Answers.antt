use Rattle.std.proofs.Common.{[], ◌∷◌}
use Rattle.serde_amqp_read.specs.Reads.{faultless}
use Rattle.serde_amqp_de.proofs.Heads.{carried}
use Rattle.amqp_link_sections.specs.Annotations.{footer_item, footer_taken}
use Rattle.amqp_link_sections.specs.Body.{amqp_value_item}
use Rattle.amqp_link_message.specs.Parts.{at_most_one, if_there}
use Rattle.amqp_link_message.specs.AnyBodyLaws.{sequence_read, value_read, not_data, not_sequence, not_value}
use Rattle.amqp_link_message.proofs.Bodies.{some_gives}
use Rattle.amqp_link_message.proofs.any_body.BodyReadBody.read.Goals as goal

pub returns-in_err-data-clause-refused : goal.returns-in_err-data-clause-refused
returns-in_err-data-clause-refused g c =
    carried faultless c.from_residual.result _ _ _ c.from_residual.ensures.1
    (not_data g.T.Deserialize.take (at_most_one footer_taken ∷ []) c.args.bytes.now)
    c.in_err-data.ensures.refused

pub returns-in_err-read-in-None-clause-refused : goal.returns-in_err-read-in-None-clause-refused
returns-in_err-read-in-None-clause-refused g c =
    carried faultless c.from_residual-in_err-read-in-None.result _ _ _ c.from_residual-in_err-read-in-None.ensures.1
    (not_sequence g.T.Deserialize.take (at_most_one footer_taken ∷ []) c.args.bytes.now
    (c.in_ok-data.ensures.none c.in-None.is))
    c.in_err-read-in-None.ensures.refused

pub returns-in_err-value-in-None-2-clause-refused :
    goal.returns-in_err-value-in-None-2-clause-refused
returns-in_err-value-in-None-2-clause-refused g c =
    carried faultless c.from_residual-in_err-value-in-None-2.result _ _ _
    c.from_residual-in_err-value-in-None-2.ensures.1
    (not_value g.T.Deserialize.take (at_most_one footer_taken ∷ []) c.args.bytes.now
    (c.in_ok-data.ensures.none c.in-None.is) (c.in_ok-read-in-None.ensures.none c.in-None-2.is))
    c.in_err-value-in-None-2.ensures.refused

pub returns-in-Some-2-clause-ok : goal.returns-in-Some-2-clause-ok
returns-in-Some-2-clause-ok g c =
    sequence_read g.T.Deserialize.take (at_most_one footer_taken ∷ []) c.args.bytes.now _ _
    (some_gives _ _ _ c.in-Some-2.is c.in_ok-read-in-None.ensures.some)

pub returns-in_ok-value-in-None-2-clause-ok : goal.returns-in_ok-value-in-None-2-clause-ok
returns-in_ok-value-in-None-2-clause-ok g c =
    value_read g.T.Deserialize.take (at_most_one footer_taken ∷ []) c.args.bytes.now
    (amqp_value_item g.T.Deserialize.item c.in_ok-value-in-None-2.value ∷ [])
    (if_there footer_item c.in_ok-value-in-None-2.footer ∷ []) c.in_ok-value-in-None-2.ensures.ok
