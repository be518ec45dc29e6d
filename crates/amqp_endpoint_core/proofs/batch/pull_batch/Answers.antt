use Rattle.std.proofs.Common.{◌+◌, ◌++◌}
use Rattle.amqp_endpoint_core.specs.Queue.{frames_waiting}
use Rattle.amqp_endpoint_core.proofs.BatchLaws.{batch_some}
use Rattle.amqp_endpoint_core.proofs.batch.pull_batch.Goals as goal

pub returns-in-Ok-clause-some : goal.returns-in-Ok-clause-some
returns-in-Ok-clause-some c =
    batch_some c.args.limit c.args.most (c.in-Ok.queued + c.in-Ok.sent)
    (c.args.queue.now.items ++ frames_waiting c.args.out.now.items) c.requires.least c.requires.within
    c.in-Ok.ensures.taken.fills
