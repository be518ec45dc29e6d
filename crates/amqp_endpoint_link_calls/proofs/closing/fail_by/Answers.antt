use Rattle.amqp_endpoint_link_calls.proofs.Closed.{end-changes, none-there}
use Rattle.amqp_endpoint_link_calls.proofs.closing.fail_by.Goals as goal

pub unreachable-requires : goal.unreachable-requires
unreachable-requires c =
    absurd (none-there c.args.session.now c.args.handle c.in_default.ensures.value c.requires.there)

pub returns : goal.returns
returns c =
    end-changes c.args.session.now c.args.handle c.in-Some.held.now c.fail_end.new.end c.args.link c.args.count
    c.args.events.now.items c.fail_end.new.events.items c.in-Some.ensures.value c.fail_end.ensures.ends
    c.fail_end.ensures.told
