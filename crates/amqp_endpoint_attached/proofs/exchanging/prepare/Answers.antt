use Rattle.std.proofs.Common.{sym, ◌∙◌}
use Rattle.amqp_endpoint_attached.proofs.Taking.{fails, taken_passes}
use Rattle.amqp_endpoint_attached.proofs.exchanging.prepare.Goals as goal

pub returns-in-Ok-decided-clause-passes : goal.returns-in-Ok-decided-clause-passes
returns-in-Ok-decided-clause-passes c =
    taken_passes c.args.link.now c.args.attach.now c.in-Ok-decided.prepared c.requires
    (sym c.in-Ok-decided.is ∙ c.in-Ok.ensures.ok)

pub returns-in-Err-decided-clause-err : goal.returns-in-Err-decided-clause-err
returns-in-Err-decided-clause-err c =
    fails c.args.link.now c.args.attach.now c.in-Err-decided.error c.requires
    (sym c.in-Err-decided.is ∙ c.in-Ok.ensures.ok)
