use Rattle.std.proofs.Common.{refl}
use Rattle.amqp_endpoint_link_calls.proofs.Closed.{ends-by}
use Rattle.amqp_endpoint_link_calls.proofs.closing.fail_in.Goals as goal

pub returns-clause-ok : goal.returns-clause-ok
returns-clause-ok c =
    ends-by c.args.session.now c.fail_by.new.session c.args.handle c.args.link c.count_in-count.result
    c.in_ok-events.events.items c.fail_by.new.events.items c.count_in-count.ensures c.in_ok-events.ensures.items
    c.fail_by.ensures
