use Rattle.std.proofs.Common.{◌≡◌, length, arith}
use Rattle.std.proofs.lemmas.Grind.{common_steps}
use Rattle.amqp_link_message.proofs.Ending.{ends}
use Rattle.amqp_link_message.proofs.parts.UnitReadParts.read.Goals as goal

pub returns-then-is_empty-clause-ok : goal.returns-then-is_empty-clause-ok
returns-then-is_empty-clause-ok c =
    let none : length c.args.bytes.now ≡ 0 = grind (arith, common_steps) in
    ends c.args.bytes.now none
