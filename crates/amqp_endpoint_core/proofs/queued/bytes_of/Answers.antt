use Rattle.std.proofs.Common.{refl}
use Rattle.amqp_endpoint_core.proofs.BatchLaws.{all_taken}
use Rattle.amqp_endpoint_core.proofs.queued.bytes_of.Goals as goal

pub returns-clause-ok : goal.returns-clause-ok
returns-clause-ok g c =
    all_taken c.args.limit c.args.limit (g.W.Waits.waits c.args.waiting.now) c.in_ok-append_to.field-0
    c.new-bytes.result.items c.append_to.new.bytes.items c.requires.least c.requires.within refl
    c.in_ok-append_to.ensures.ok c.new-bytes.ensures.items
