use Rattle.std.proofs.Common.{sym}
use Rattle.serde_amqp_tree.proofs.Cuts.{cuts_none, cuts_element}
use Rattle.serde_amqp_tree.proofs.cutting.cut_element.Goals as goal

pub returns-then-count-eq0 : goal.returns-then-count-eq0
returns-then-count-eq0 c =
    cuts_none c.args.count c.in-Some.last.now c.in-Some-code_of.element c.args.front.now c.in_ok-rest.rest.now (sym c.in-Some-code_of.ensures) c.in_ok-rest.ensures c.if-count-eq0.true

pub returns : goal.returns
returns c =
    cuts_element c.args.count c.in-Some.last.now c.in-Some-code_of.element c.args.front.now c.in_ok-rest.rest.now (sym c.in-Some-code_of.ensures) c.in_ok-rest.ensures c.if-byte-eq64.false c.if-byte-eq0.false
